-- WHAT THE RECORDS OF A MESSAGE LEAVE in the lent parts: the stations were S and are S', the carts C and C', the messages M and M', the
-- lines W and W'.
use Rattle.std.specs.Prelude.{◌≡◌, cond, ◌&&◌, List, ℕ, ◌+◌, eqb, ltb, length}
use Rattle.protocol.specs.CartSets.{has, union, minus, without, set_of}
use Rattle.protocol.specs.Floor.{Carts}
use Rattle.stations.specs.View.{head_in, stations_in, with_expected, with_copy, with_queue}
use Rattle.carts.specs.View.{carts_in, canonical_in}
use Rattle.messages.specs.View.{rooms_in, with_acked, with_waiting}
use Rattle.queue.specs.Rooms.{room_count}
use Rattle.queue.specs.Places.{place_among}
use Rattle.sets.specs.Masks.{size}
use Rattle.view.specs.Records.{words_of}
use Rattle.wired_lines.specs.ToEvery.{PushedToEvery}

-- A MULTICAST

-- the carts of a set whose next number for initiator s is n; and those whose next number is greater
abbrev pub due_among : Carts → ℕ → ℕ → ℕ → ℕ
due_among C local s n = set_of 64 (λ c. has local c && eqb (C.next c s) n)

abbrev pub past_among : Carts → ℕ → ℕ → ℕ → ℕ
past_among C local s n = set_of 64 (λ c. has local c && ltb n (C.next c s))

-- every cart of the set `over` has next number n for initiator s
abbrev pub raised : Carts → ℕ → ℕ → ℕ → Carts
raised C over s n = record { place = C.place; next = λ c u. cond (eqb u s && has over c) n (C.next c u); steady = C.steady }

pub record Raised (C C' : List ℕ) (over s n : ℕ) : Type 0 where
  pub carts : carts_in C' ≡ raised (carts_in C) over s n
  pub canonical : canonical_in C' ≡ canonical_in C
  pub length : length C' ≡ length C

-- at station t: the copy and the queue's entry of room m, and one more expected of initiator s
pub record Stored (S S' : List ℕ) (m s t copy queue : ℕ) : Type 0 where
  pub stations : stations_in S' ≡ with_expected (with_queue (with_copy (stations_in S) m t copy) m t queue) t s ((stations_in S).expected t s + 1)
  pub head : head_in S' ≡ head_in S
  pub length : length S' ≡ length S

-- message n of s, in room m, at station t, by the row `local` of those that count as local there: those due and named are queued, those due and not
-- named are passed over, and those past it are not in the copy; p is how many are passed over. "The rest of the step takes it from that row alone":
-- nothing else here says who is local. q is "the entry's place, 1 for the head, as it stands right after the putting": by the words afterwards, 0 "if
-- no cart was queued"
pub record Buffered (S S' C C' M : List ℕ) (local m n s t p q : ℕ) : Type 0 where
  pub over : ℕ
  pub passed : over ≡ minus (due_among (carts_in C) local s n) ((rooms_in M).named m)
  pub carts : Raised C C' over s (n + 1)
  pub stations : Stored S S' m s t (minus ((rooms_in M).named m) (past_among (carts_in C) local s n)) (minus (due_among (carts_in C) local s n) over)
  pub count : p ≡ size 64 over
  pub place : q ≡ cond (eqb (minus (due_among (carts_in C) local s n) over) 0) 0 (place_among (stations_in S') (rooms_in M) t m (room_count M))

-- A DELETE of the message in room m, at station t: it waits for t no more
pub record Deleted (M M' : List ℕ) (m t : ℕ) : Type 0 where
  pub rooms : rooms_in M' ≡ with_waiting (rooms_in M) m (without ((rooms_in M).waiting m) t)
  pub length : length M' ≡ length M

-- AN ACK LIST of the message in room m, at its initiator s: its carts are added. When all that are named are known, a delete goes to each of n
-- stations; w records are put on lines
pub record Acknowledged (M M' W W' : List ℕ) (m number carts s n w : ℕ) : Type 0 where
  pub rooms : rooms_in M' ≡ with_acked (rooms_in M) m (union ((rooms_in M).acked m) carts)
  pub length : length M' ≡ length M
  pub whole : union ((rooms_in M).acked m) carts ≡ (rooms_in M).named m → (w ≡ n) × PushedToEvery W W' s n (words_of 3 m number 0)
  pub part : (union ((rooms_in M).acked m) carts ≡ (rooms_in M).named m → ⊥) → (w ≡ 0) × (W' ≡ W)
