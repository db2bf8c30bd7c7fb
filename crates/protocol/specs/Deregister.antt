-- THE DEREGISTER STEP (document 001, 3.5): the cart leaves, the complete ack lists of the station go (document 004's hand-off), and then its register.
use Rattle.std.specs.Prelude.{Bool, cond, ◌&&◌, not, List, [], ◌∷◌, ℕ, zero, suc, ◌+◌, eqb}
use Rattle.protocol.specs.Folds.{update}
use Rattle.protocol.specs.CartSets.{without}
use Rattle.protocol.specs.Floor.{Limits, travelling, register, Floor, set_place, set_queue, between, push, is_buffered}
use Rattle.protocol.specs.Events.{Done, done}
use Rattle.protocol.specs.Order.{stands_before}
use Rattle.protocol.specs.Handoff.{row_of}
use Rattle.protocol.specs.Wireless.{all_acked, send_acks}

-- ROOMS IN QUEUE ORDER

-- room m put where it stands in a list of rooms in queue order
unfoldable pub insert : Floor → ℕ → List ℕ → List ℕ
insert F m [] = m ∷ []
insert F m (k ∷ l) = cond (stands_before F m k) (m ∷ (k ∷ l)) (k ∷ insert F m l)

-- those of the first n rooms that pass, "in queue order (smallest number, then higher initiator)"
unfoldable pub in_order : Floor → (ℕ → Bool) → ℕ → List ℕ
in_order F pick zero = []
in_order F pick (suc n) = cond (pick n) (insert F n (in_order F pick n)) (in_order F pick n)

-- how often room m stands in a list
unfoldable pub times_in : ℕ → List ℕ → ℕ
times_in m [] = 0
times_in m (k ∷ l) = cond (eqb m k) 1 0 + times_in m l

-- COMPLETE ACK LISTS

-- of the message in room m, at t: "its ack list is not empty and holds every local cart in the copy"
unfoldable pub is_complete : Floor → ℕ → ℕ → Bool
is_complete F t m = not (eqb (F.acks m t) 0) && all_acked F m t

-- "if .., the list is sent, struck and emptied"
abbrev pub send_if_complete : Floor → ℕ → ℕ → Floor
send_if_complete F t m = cond (is_complete F t m) (send_acks F m t) F

-- the messages in these rooms are tested at t, one after the other
unfoldable pub test_each : Floor → ℕ → List ℕ → Floor
test_each F t [] = F
test_each F t (m ∷ l) = test_each (send_if_complete F t m) t l

-- how many lists go then
unfoldable pub lists_sent : Floor → ℕ → List ℕ → ℕ
lists_sent F t [] = 0
lists_sent F t (m ∷ l) = cond (is_complete F t m) 1 0 + lists_sent (send_if_complete F t m) t l

-- THE STEP: of cart c, its record come from station i, handled at t

-- "the cart leaves every queue entry here (emptied entries go) and the local list"
unfoldable pub leave : Floor → ℕ → ℕ → ℕ → Floor
leave F i t c =
    let unqueued = set_queue F (λ m u. cond (eqb u t) (without (F.queue m u) c) (F.queue m u)) in
    set_place unqueued (update F.place c (travelling t i))

module _ (M : Limits) where
  -- "every buffered message here in queue order"
  unfoldable pub buffered_rooms : Floor → ℕ → List ℕ
  buffered_rooms F t = in_order F (λ m. is_buffered F m t) M.held

  -- "a deregister step, after the cart has left the local list, tests every buffered message here": each list that is complete then goes, also
  -- one that was complete before, or is of a message that does not name the cart. "These lists go on the lines before the register, and w counts
  -- them"; "A register goes to the new station"
  unfoldable pub on_deregister : Floor → ℕ → ℕ → ℕ → Done
  on_deregister F i t c =
      let left = leave F i t c in
      let rooms = buffered_rooms left t in
      let lists_gone = test_each left t rooms in
      done (push lists_gone (between t i) (register c (row_of M (F.next c)))) 3 4 c 0 (suc (lists_sent left t rooms)) 0 []
