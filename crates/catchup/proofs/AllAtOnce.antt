-- What the code does for sixteen initiators is the protocol's catch-up for all of them at once.
use mathlib.Core.Path.{◌≡◌, refl, sym, ap, ap₂, fun_ext, ◌∙◌}
use mathlib.Core.Bool.{Bool, true, false, cond, not, ◌&&◌, ◌||◌}
use mathlib.Core.List.{List}
use mathlib.Core.Option.{Option, none, some}
use Prim.Native.Nat.{ℕ, zero, suc, ◌-◌, ◌<◌, ◌≤◌, max}
use native.Mathlib.Omega.{arith}
use lib.Dec.{eqb, ltb}
use lib.ListN.{get_or}
use borrow.Author.Tests.{eqb-true, eq-eqb, lt-ltb, le-ltb, ltb-true}
use Rattle.protocol.specs.Folds.{sum, count, by_option}
use Rattle.protocol.specs.CartSets.{has, with}
use Rattle.protocol.specs.Floor.{Limits, Floor}
use Rattle.protocol.specs.Order.{place_in}
use Rattle.protocol.specs.Handoff.{Stop, catch_up_stop, largest_place}
use Rattle.protocol.proofs.Tests.{by_test, by_lt, by_eq, same_test, clash, and_left, and_right, or_none}
use Rattle.protocol.proofs.Counting.{sum_ext}
use Rattle.protocol.proofs.CatchUp.{found_is, catch_up_at_once}
use Rattle.protocol.proofs.Places.{given_at_once}
use Rattle.stations.specs.View.{Stations, stations_in}
use Rattle.messages.specs.View.{rooms_in}
use Rattle.queue.specs.Rooms.{tables_floor, room_at}
use Rattle.queue.specs.Places.{is_before, place_among}
use Rattle.queue.proofs.Codes.{room_at_lem, no_room_at}
use Rattle.catchup.specs.Naming.{Covers}
use Rattle.catchup.specs.Nearest.{nearest_among}
use Rattle.catchup.specs.Arrival.{nearest_row, stop_in, risen, is_found, occurs, RoomsBelow, queued_for, place_found, deepest_to}
use Rattle.catchup.proofs.ClosedForm.{IsNearest, nearest_is, Would, would}
use Rattle.catchup.proofs.RowLaws.{entry_says}
use Rattle.catchup.proofs.Stops.{Agree, NoneBeyond, row_stops_there, stop_found}

same_found : (o : Option ℕ) (m : ℕ) → is_found o m ≡ found_is o m
same_found none m = refl
same_found (some k) m =
    same_test (eqb m k) (eqb k m) (λ e. eq-eqb k m (sym (eqb-true m k e))) (λ e. eq-eqb m k (sym (eqb-true k m e)))

-- a word that says a room is that room
says_room : (w m : ℕ) → is_found (room_at w) m ≡ true → w ≡ m
says_room w m e =
    by_lt w 32
    (λ l. sym (eqb-true m w (ap (λ (o : Option ℕ). is_found o m) (sym (room_at_lem w l)) ∙ e)))
    (λ l. clash false (ap (λ (o : Option ℕ). is_found o m) (sym (no_room_at w l)) ∙ e) refl)

-- A MESSAGE IS FOUND FOR ITS OWN INITIATOR ALONE

module _ (F : Floor) (t c : ℕ) (row nearest : List ℕ) (is_nearest : nearest ≡ nearest_row F t c row 32) where
  found_would : (s : ℕ) → s < 16 → (m : ℕ) → is_found (room_at (get_or nearest s 0)) m ≡ true → Would F t c s (get_or row s 0) m
  found_would s h m e =
      found (nearest_among F t c s (get_or row s 0) 32) (nearest_is F t c s (get_or row s 0) 32)
      (ap (λ (o : Option ℕ). is_found o m) (sym (entry_says F t c row nearest is_nearest s h)) ∙ e)
    where
      found : (o : Option ℕ) → IsNearest F t c s (get_or row s 0) 32 o → is_found o m ≡ true → Would F t c s (get_or row s 0) m
      found none n f = clash false f refl
      found (some k) n f = rw (eqb-true m k f) (would F t c s (get_or row s 0) k n.1.0)

  -- so the words of the others do not say its room
  pub occurs_once : (n : ℕ) → n ≤ 16 → (m : ℕ) → occurs nearest n m ≡ (ltb (F.initiator m) n && is_found (room_at (get_or nearest (F.initiator m) 0)) m)
  unfolding occurs
  occurs_once zero h m = rw (le-ltb (F.initiator m) 0 (omega arith))
  occurs_once (suc n) h m =
      by_eq (F.initiator m) n
      (λ z. rw (occurs_once n (omega arith) m, z, le-ltb n n (omega arith), lt-ltb n (suc n) (omega arith)))
      (λ z. let no : is_found (room_at (get_or nearest n 0)) m ≡ false =
      by_test (is_found (room_at (get_or nearest n 0)) m) (λ e. absurd (z (found_would n (omega arith) m e).is_initiator)) (λ e. e) in
      ap₂ ◌||◌ (occurs_once n (omega arith) m) no ∙ or_none (ltb (F.initiator m) n && is_found (room_at (get_or nearest (F.initiator m) 0)) m)
      ∙ ap (λ (b : Bool). b && is_found (room_at (get_or nearest (F.initiator m) 0)) m) (one_more (F.initiator m) n z))
    where
      one_more : (i n : ℕ) → (i ≡ n → ⊥) → ltb i n ≡ ltb i (suc n)
      one_more i n d =
          by_lt i n (λ l. lt-ltb i n l ∙ sym (lt-ltb i (suc n) (omega arith))) (λ l. le-ltb i n l ∙ sym (le-ltb i (suc n) (by_eq i n (λ q. absurd (d q)) (λ q. omega arith))))

  -- a room that one of them says has a copy that names the cart
  pub found_named : (m : ℕ) → occurs nearest 16 m ≡ true → has (F.copy m t) c ≡ true
  found_named m e =
      let i = F.initiator m in
      let said = sym (occurs_once 16 (omega arith) m) ∙ e in
      let low = ltb-true i 16 (and_left (ltb i 16) (is_found (room_at (get_or nearest i 0)) m) said) in
      (found_would i low m (and_right (ltb i 16) (is_found (room_at (get_or nearest i 0)) m) said)).in_copy

  -- so it is in every set that has all the rooms whose copies name the cart
  pub found_below : (b : ℕ) (S : Stations) (set : ℕ) → F.copy ≡ S.copy → Covers b S t c set → RoomsBelow b nearest
  found_below b S set es C m e =
      C.inside m
      (by_test (has set m) (λ y. y)
      (λ n. clash (has (F.copy m t) c) (found_named m e) (rw es (C.others m n))))

-- ON EVERY FLOOR WHOSE STATIONS AND MESSAGES ARE THE TWO TABLES, for a cart with that row of next numbers

module _ (N : Limits) (F : Floor) (stations messages : List ℕ) (agree : Agree F (tables_floor stations messages)) (t c : ℕ) (beyond : NoneBeyond N F t c) (row nearest : List ℕ)
    (is_nearest : nearest ≡ nearest_row (tables_floor stations messages) t c row 32) (is_row : (s : ℕ) → s < 16 → get_or row s 0 ≡ F.next c s) where
  -- each next number goes where the protocol's goes
  pub all_raised : (s : ℕ) → s < 16 → stop_in (tables_floor stations messages) t row nearest s ≡ (catch_up_stop N F t c s).upto
  all_raised s h = ap (λ (r : Stop). r.upto) (row_stops_there N F stations messages agree t c beyond s row nearest is_nearest h (is_row s h))

  -- the count of the numbers passed over is the protocol's
  pub all_passed : risen (tables_floor stations messages) t row nearest 16 ≡ sum 16 (λ s. (catch_up_stop N F t c s).upto - F.next c s)
  all_passed =
      sum_ext 16 (λ s. stop_in (tables_floor stations messages) t row nearest s - get_or row s 0) (λ s. (catch_up_stop N F t c s).upto - F.next c s)
      (λ s h. ap₂ ◌-◌ (all_raised s h) (is_row s h))

  -- what is found for an initiator is what the protocol's stop finds
  found_there : (s : ℕ) → s < 16 → room_at (get_or nearest s 0) ≡ (catch_up_stop N F t c s).found
  found_there s l =
      sym (stop_found (tables_floor stations messages) t s (get_or row s 0) (room_at (get_or nearest s 0)))
      ∙ ap (λ (r : Stop). r.found) (row_stops_there N F stations messages agree t c beyond s row nearest is_nearest l (is_row s l))

  -- the cart is queued for what the protocol's stops find, of the first n initiators
  queued_to_lem : (n : ℕ) → n ≤ 16 → (m : ℕ) → occurs nearest n m ≡ (ltb (F.initiator m) n && found_is (catch_up_stop N F t c (F.initiator m)).found m)
  queued_to_lem n h m =
      occurs_once (tables_floor stations messages) t c row nearest is_nearest n h m
      ∙ ap (λ (f : ℕ → ℕ). ltb (f m) n && is_found (room_at (get_or nearest (f m) 0)) m) (sym agree.initiator)
      ∙ by_lt (F.initiator m) n
      (λ l. ap (λ (b : Bool). ltb (F.initiator m) n && b) (same_found (room_at (get_or nearest (F.initiator m) 0)) m ∙ ap (λ (o : Option ℕ). found_is o m) (found_there (F.initiator m) (omega arith))))
      (λ l. rw (le-ltb (F.initiator m) n l))

  pub all_queued : (m : ℕ) → occurs nearest 16 m ≡ (ltb (F.initiator m) 16 && found_is (catch_up_stop N F t c (F.initiator m)).found m)
  all_queued m = queued_to_lem 16 (omega arith) m

  -- THE PLACES, where the queues agree too
  module _ (queues : F.queue ≡ (stations_in stations).queue) where
    -- the floor once the cart is queued for the first n initiators, as the protocol has it
    abbrev queued_to : ℕ → Floor
    queued_to n = catch_up_at_once N F t c (λ s. ltb s n)

    entry_to : (n : ℕ) → n ≤ 16 → (k : ℕ) → (queued_for (stations_in stations) t c (occurs nearest n)).queue k t ≡ (queued_to n).queue k t
    entry_to n h k =
        ap (λ (b : Bool). cond (eqb t t && b) (with ((stations_in stations).queue k t) c) ((stations_in stations).queue k t)) (queued_to_lem n h k)
        ∙ ap (λ (q : ℕ → ℕ → ℕ). cond (eqb t t && (ltb (F.initiator k) n && found_is (catch_up_stop N F t c (F.initiator k)).found k)) (with (q k t) c) (q k t)) (sym queues)

    place_to : (n m : ℕ) → n ≤ 16 → place_among (queued_for (stations_in stations) t c (occurs nearest n)) (rooms_in messages) t m N.held ≡ place_in N (queued_to n) m t
    unfolding place_among place_in
    place_to n m h =
        ap suc
        (ap (count N.held) (fun_ext (λ k. ap (λ (x : ℕ). not (eqb x 0) && is_before (rooms_in messages) k m) (entry_to n h k)))
        ∙ (λ i. count N.held (λ k. not (eqb ((queued_to n).queue k t) 0) && (ltb (numbers i k) (numbers i m) || (eqb (numbers i k) (numbers i m) && ltb (initiators i m) (initiators i k))))))
      where
        numbers : (rooms_in messages).number ≡ F.number
        numbers = sym agree.number

        initiators : (rooms_in messages).initiator ≡ F.initiator
        initiators = sym agree.initiator

    -- the largest place, of the first n initiators
    pub deepest_to_lem : (n : ℕ) → n ≤ 16 → deepest_to (stations_in stations) (rooms_in messages) t c N.held nearest n ≡ largest_place N n F t c
    unfolding deepest_to largest_place
    deepest_to_lem zero h = refl
    deepest_to_lem (suc n) h =
        ap₂ max (deepest_to_lem n (omega arith))
        (by_found (room_at (get_or nearest n 0)) (catch_up_stop N F t c n).found (found_there n (omega arith)) ∙ sym (given_at_once N n F t c))
      where
        by_found : (o p : Option ℕ) → o ≡ p
            → place_found (queued_for (stations_in stations) t c (occurs nearest (suc n))) (rooms_in messages) t N.held o ≡ by_option p 0 (λ m. place_in N (queued_to (suc n)) m t)
        by_found none p e = ap (λ (q : Option ℕ). by_option q 0 (λ m. place_in N (queued_to (suc n)) m t)) e
        by_found (some m) p e = place_to (suc n) m h ∙ ap (λ (q : Option ℕ). by_option q 0 (λ m. place_in N (queued_to (suc n)) m t)) e
