-- WHAT IS LEFT TO DO on a floor, as a number: each accepted wire or radio step lowers it. It is at most 32 × (16 + 16 + 64 + 64) + 2 × 64: for each
-- held message its multicasts, its deletes, and two for each cart; and two for each cart's hand-off.
use Rattle.std.specs.Prelude.{Bool, true, false, cond, ℕ, ◌+◌, eqb}
use Rattle.protocol.specs.Folds.{count, sum}
use Rattle.protocol.specs.CartSets.{has}
use Rattle.protocol.specs.Floor.{Limits, Place, outside, at, leaving, travelling, Record, multicast, ack_list, delete, deregister, register, Floor, is_held}
use Rattle.protocol.specs.Form.{acks_of, count_lines}

-- a multicast
abbrev pub is_multicast : Record → Bool
is_multicast (multicast n) = true
is_multicast (ack_list n x) = false
is_multicast (delete n) = false
is_multicast (deregister c) = false
is_multicast (register c row) = false

-- the multicasts on the lines
abbrev pub multicasts_left : Floor → ℕ
multicasts_left F = count_lines F.stations (λ i j. is_multicast) F.lines

-- of a cart's way: a deregister and a register, or a register
abbrev pub way_left : Place → ℕ
way_left outside = 0
way_left (at s) = 0
way_left (leaving s u) = 2
way_left (travelling s u) = 1

-- the ways of all carts
abbrev pub ways_left : Floor → ℕ
ways_left F = sum F.carts (λ c. way_left (F.place c))

-- of one cart and one message: 2 until an acknowledgement of it stands anywhere (the count n), 1 until its initiator knows, then nothing
abbrev pub stage : Bool → ℕ → ℕ
stage known n = cond known 0 (cond (eqb n 0) 2 1)

module _ (M : Limits) where
  -- of cart c and the message in room m, whether it names the cart or not
  abbrev pub owing : Floor → ℕ → ℕ → ℕ
  owing F m c = stage (has (F.acked m) c) (acks_of M F m c)

  -- of the message in room m: the stations that have not handled its delete, and its carts
  abbrev pub message_left : Floor → ℕ → ℕ
  message_left F m = cond (is_held F m) (count F.stations (has (F.waiting m)) + sum F.carts (owing F m)) 0

  -- of all messages
  abbrev pub messages_left : Floor → ℕ
  messages_left F = sum M.held (message_left F)

  -- THE POTENTIAL
  unfoldable pub potential : Floor → ℕ
  potential F = multicasts_left F + (messages_left F + ways_left F)
