-- THE HAND-OFF MODULE (document 001, 3.5): catch-up, and a cart's way: enter, move, register; and its flag. Deregister is in a file of its own.
use Rattle.std.specs.Prelude.{Bool, true, cond, ◌&&◌, List, [], ℕ, zero, suc, ◌-◌, max, eqb, ltb, get_or}
use Rattle.std.proofs.Math.Option.{Option, none, some}
use Rattle.protocol.specs.Folds.{sum, first, list_of, update, update2, by_option}
use Rattle.protocol.specs.CartSets.{has, with, without}
use Rattle.protocol.specs.Floor.{Limits, outside, at, leaving, deregister, Floor, set_place, set_next, set_steady, set_copy, set_queue, set_groups, between, push, station_of, is_buffered, is_message}
use Rattle.protocol.specs.Events.{Done, done}
use Rattle.protocol.specs.Order.{place_in}

-- where a catch-up stops: the cart's next number there, and the room of the message that it is queued for, if any
pub record Stop : Type 0 where
  pub upto : ℕ
  pub found : Option ℕ

-- "Move (cart, to): a deregister goes from to to the old station; the cart is leaving"
unfoldable pub on_move : Floor → ℕ → ℕ → Done
on_move F c to =
    let old = station_of (F.place c) in
    done (push (set_place F (update F.place c (leaving old to))) (between to old) (deregister c)) 5 c to 0 1 0 []

-- cart c is told steady, or not: "It prints cart and flag with p = 0 and w = 0"
unfoldable pub on_flag : Floor → ℕ → Bool → Done
on_flag F c b = done (set_steady F (update F.steady c b)) 6 c (cond b 1 0) 0 0 0 []

-- A CART GOES BACK TO THE FACTORY: it "leaves every group, and a group that this empties is undefined", since one without members is
abbrev pub leave_groups : Floor → ℕ → Floor
leave_groups F c = set_groups F (λ g. without (F.groups g) c)

-- "It may enter again, with all next numbers 0": cart c has those
abbrev pub no_numbers : Floor → ℕ → Floor
no_numbers F c = set_next F (λ d s. cond (eqb d c) 0 (F.next d s))

-- "Kind 10 carries a cart and retires it: the number becomes outside, leaves every group"; "It prints the cart, 0, p = 0, w = 0, q = 0"
unfoldable pub on_retire : Floor → ℕ → Done
on_retire F c = done (leave_groups (no_numbers (set_place F (update F.place c outside)) c) c) 10 c 0 0 0 0 []

-- the cart's next numbers become those of the row
abbrev pub with_row : Floor → ℕ → (ℕ → ℕ) → Floor
with_row F c row = set_next F (λ d s. cond (eqb d c) (row s) (F.next d s))

-- a row's entry for initiator s
abbrev pub entry_of : List ℕ → ℕ → ℕ
entry_of row s = get_or row s 0

-- "from each buffered copy naming the cart with a number below the cart's next number, the cart is struck", at station t
unfoldable pub struck : Floor → ℕ → ℕ → Floor
struck F t c =
    set_copy F
    (λ m u. cond (eqb u t && (is_buffered F m t && ltb (F.number m) (F.next c (F.initiator m)))) (without (F.copy m u) c) (F.copy m u))

-- "queue the cart for it": cart c, at station t, for the message in room m
abbrev pub enqueue : Floor → ℕ → ℕ → ℕ → Floor
enqueue F m t c = set_queue F (update2 F.queue m t (with (F.queue m t) c))

module _ (M : Limits) where
  -- the room of held message n of initiator s
  unfoldable pub room_of : Floor → ℕ → ℕ → Option ℕ
  room_of F s n = first M.held (is_message F s n)

  -- "that message is buffered here and its copy names the cart": the room of message n of s, if so at station t, of cart c
  unfoldable pub buffered_for : Floor → ℕ → ℕ → ℕ → ℕ → Option ℕ
  buffered_for F t c s n = first M.held (λ m. is_message F s n m && (is_buffered F m t && has (F.copy m t) c))

  -- "queue the cart for it and stop; else raise the next number", from n, at most so often
  unfoldable pub climb : Floor → ℕ → ℕ → ℕ → ℕ → ℕ → Stop
  climb F t c s zero n = record { upto = n; found = none }
  climb F t c s (suc k) n = elim (buffered_for F t c s n) [ none ↦ climb F t c s k (suc n) | some m ↦ record { upto = n; found = some m } ]

  -- "while the cart's next number is below the expected number"
  unfoldable pub catch_up_stop : Floor → ℕ → ℕ → ℕ → Stop
  catch_up_stop F t c s = climb F t c s (F.expected t s - F.next c s) (F.next c s)

  -- "Catch-up (one initiator)": cart c, at station t, for initiator s
  unfoldable pub catch_up : Floor → ℕ → ℕ → ℕ → Floor
  catch_up F t c s =
      let stop = catch_up_stop F t c s in
      let raised = set_next F (update2 F.next c s stop.upto) in
      by_option stop.found raised (λ m. enqueue raised m t c)

  -- "catch-up for every initiator in rising order": for the first n of them
  unfoldable pub catch_up_each : ℕ → Floor → ℕ → ℕ → Floor
  catch_up_each zero F t c = F
  catch_up_each (suc n) F t c = catch_up (catch_up_each n F t c) t c n

  -- "the cart is struck. Then catch-up for every initiator in rising order, and the cart is at this station": cart c with that row, at station t
  unfoldable pub arrive : Floor → ℕ → ℕ → (ℕ → ℕ) → Floor
  arrive F t c row =
      let caught_up = catch_up_each F.stations (struck (with_row F c row) t c) t c in
      set_place caught_up (update F.place c (at t))

  -- "Putting a cart in a queue entry now also answers the entry's place .. as it stands right after the putting": that of a catch-up, 0 if it
  -- does not queue the cart
  unfoldable pub place_given : Floor → ℕ → ℕ → ℕ → ℕ
  place_given F t c s = by_option (catch_up_stop F t c s).found 0 (λ m. place_in M (catch_up F t c s) m t)

  -- "the largest place given in that step", of the catch-ups for the first n initiators
  unfoldable pub largest_place : ℕ → Floor → ℕ → ℕ → ℕ
  largest_place zero F t c = 0
  largest_place (suc n) F t c = max (largest_place n F t c) (place_given (catch_up_each n F t c) t c n)

  -- and for every initiator, when cart c arrives with that row at station t
  unfoldable pub deepest : Floor → ℕ → ℕ → (ℕ → ℕ) → ℕ
  deepest F t c row = largest_place F.stations (struck (with_row F c row) t c) t c

  -- "p counts the numbers passed over in this step": how far the arriving cart's next numbers rose
  unfoldable pub passed_over : Floor → ℕ → ℕ → (ℕ → ℕ) → ℕ
  passed_over F t c row = sum F.stations (λ s. (arrive F t c row).next c s - row s)

  -- "Enter (station, cart): as a register with all next numbers 0, handled at once"; "A cart counts as steady from its entry"
  unfoldable pub on_enter : Floor → ℕ → ℕ → Done
  on_enter F t c = done (set_steady (arrive F t c (λ s. 0)) (update F.steady c true)) 1 t c (passed_over F t c (λ s. 0)) 0 (deepest F t c (λ s. 0)) []

  -- "the cart's whole row of next numbers": one for each station that a floor may have
  abbrev pub row_of : (ℕ → ℕ) → List ℕ
  row_of next = list_of M.columns next

  -- "Register": of cart c, handled at t
  unfoldable pub on_register : Floor → ℕ → ℕ → List ℕ → Done
  on_register F t c row = done (arrive F t c (entry_of row)) 3 5 c (passed_over F t c (entry_of row)) 0 (deepest F t c (entry_of row)) []
