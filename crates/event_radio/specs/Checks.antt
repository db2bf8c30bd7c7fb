-- THE CHECKS OF A RADIO STEP behind 5, on the tables of the stations (S), the carts (C) and the messages (M), in the order of 01's table.
use Rattle.std.specs.Prelude.{true, false, not, List, ℕ, leb, ltb}
use Rattle.std.proofs.Math.Option.{Option}
use Rattle.protocol.specs.Folds.{by_option}
use Rattle.protocol.specs.CartSets.{has}
use Rattle.protocol.specs.Floor.{is_at}
use Rattle.protocol.specs.Refusals.{check}
use Rattle.stations.specs.View.{head_in, stations_in}
use Rattle.carts.specs.View.{carts_in}
use Rattle.messages.specs.View.{rooms_in}

-- 16 "cart is not at this station (leaving counts as not at)"
abbrev pub not_at : List ℕ → ℕ → ℕ → ℕ
not_at C t c = check 16 (not (is_at ((carts_in C).place c) t)) 0

-- 25 "not steady"
abbrev pub not_steady : List ℕ → ℕ → ℕ
not_steady C c = check 25 (not ((carts_in C).steady c)) 0

-- 8 "a station number not on the floor", 9 "a cart number .. not on the floor", 16, and "25 not steady, after 16 and before 17"
unfoldable pub not_here : List ℕ → List ℕ → ℕ → ℕ → ℕ
not_here S C t c =
    check 8 (leb (head_in S).stations t)
    (check 9 (leb (head_in S).carts c)
    (check 16 (not (is_at ((carts_in C).place c) t))
    (check 25 (not ((carts_in C).steady c)) 0)))

-- 17 "queue empty, or its head entry lacks the cart", 21 "lent text buffer shorter than the text"; `head` is the room of the queue's head
unfoldable pub not_served : List ℕ → List ℕ → ℕ → ℕ → ℕ → Option ℕ → ℕ
not_served S M t c buffer head =
    check 17 (by_option head true (λ m. not (has ((stations_in S).queue m t) c)))
    (check 21 (by_option head false (λ m. ltb buffer ((rooms_in M).length m))) 0)
