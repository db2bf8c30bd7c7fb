-- THE PASS SAYS YES exactly where the clauses of the form rule over the lines hold, given those over the tables.
use mathlib.Core.Path.{refl, subst, sym, ap, ◌∙◌, ◌≡◌}
use mathlib.Core.Bool.{Bool, true, false, ◌&&◌, ◌||◌, not}
use mathlib.Core.List.{List, [], ◌∷◌, map}
use Prim.Native.Nat.{ℕ, zero, suc, ◌+◌, ◌^◌, ◌≤◌, ◌<◌}
use native.Mathlib.Nat.{pow-suc}
use native.Mathlib.Omega.{arith}
use lib.Dec.{eqb, leb, ltb}
use lib.Pow.{pow_mono}
use lib.ListN.{get_or, length}
use borrow.Author.Tests.{eqb-true, ne_eqb, ltb-true, lt-ltb, le-leb}
use Rattle.protocol.specs.Folds.{sum, count, list_of}
use Rattle.protocol.specs.CartSets.{has}
use Rattle.protocol.specs.Floor.{limits_of, Floor, Place, outside, at, leaving, travelling, Carts, Record, multicast, ack_list, delete, deregister, register, entered, moving, is_held}
use Rattle.protocol.specs.Claims.{All, True, test}
use Rattle.protocol.specs.Form.{HandoffRecord, bit, count_line, count_lines, is_delete_of, acks_to, acks_of, multicast_numbers, counts_up, deletes_follow, handoffs, handoff_of, place_inside, record_rule}
use Rattle.protocol.specs.Ranges.{PlaceInRange}
use Rattle.protocol.proofs.ClaimLaws.{reflect}
use Rattle.protocol.proofs.Tests.{same_test, by_test, by_lt, clash, and-false, and_left, and_right, and_intro, eqb_self, every_at, every_all, length_list_of, list_of_at}
use Rattle.protocol.proofs.RecordBound.{count_handoffs}
use Rattle.protocol.proofs.SetLaws.{has_set_of, has_zero, no_member, same_members, set_of_lt}
use Rattle.protocol.proofs.Counting.{bit_le, sum_ext, count_none, count_lines_none}
use Rattle.protocol.proofs.Updates.{all_map}
use Rattle.protocol.proofs.LineFacts.{is_handoff_of}
use Rattle.sets.proofs.MaskLaws.{within_has, has_within}
use Rattle.stations.specs.View.{Stations, stations_in}
use Rattle.carts.specs.View.{carts_in}
use Rattle.messages.specs.View.{Rooms, rooms_in}
use Rattle.lines.specs.Lines.{registers_in}
use Rattle.view.specs.View.{Lent, floor_in}
use Rattle.view.proofs.LinesView.{line_beyond}
use Rattle.form_lines.specs.Said.{Said, said_on}
use Rattle.form_lines.specs.LinesRule.{lines_claim}
use Rattle.form_lines.specs.Pass.{gathered, apart, passed, movers, passes, lines_pass}
use Rattle.form_lines.proofs.Walks.{Each, each_map, each_map2}
use Rattle.form_lines.proofs.Split.{walk_gone, walk_next, GoodNext, Right}
use Rattle.form_lines.proofs.Reading.{read, lines_read, room_said, right_rooms, rooms_right_lem}
use Rattle.form_lines.proofs.Tallies.{Taken, Spot, OneRoom}
use Rattle.form_lines.proofs.Lines.{if_at, if_of, all_found, AllFound, AllSeen, Alone}
use Rattle.form_lines.proofs.Totals.{found_all_yes, found_all_no, seen_all_yes, seen_all_no, gone_line_yes, gone_line_no, no_line, total_is}
use Rattle.form_lines.proofs.Order.{order_of, of_order}
use Rattle.form_lines.proofs.Gathered.{gathered_yes, gathered_no}
use Rattle.protocol.proofs.FormTest.{same_handoffs_are}
use Rattle.form_lines.proofs.Handoffs.{are_same_handoffs, due, due_total, handoffs_due, Placed, CartBelow, placed_of}
use Rattle.form_lines.proofs.Clauses.{TableClauses, LineClauses}
use Rattle.form_lines.proofs.RecordRule.{all_read, each_read, slot, one_room, fits_room, fits_rule, rule_below, rule_fits}
use Rattle.form_lines.proofs.Middle.{start, seen_last, Middle, middle_of, of_middle}

-- SETS

lt_two_pow : (n : ℕ) → n < 2 ^ n
lt_two_pow zero = omega arith
lt_two_pow (suc n) = let z = lt_two_pow n in let p = pow-suc 2 n in omega arith

-- two sets with the same members are one
same_sets : (x y : ℕ) → ((c : ℕ) → has x c ≡ has y c) → x ≡ y
same_sets x y h =
    same_members (x + y) x y
    (let z = lt_two_pow x in let w : 2 ^ x ≤ 2 ^ (x + y) = pow_mono (let u : x ≤ x + y = omega arith in u) in omega arith)
    (let z = lt_two_pow y in let w : 2 ^ y ≤ 2 ^ (x + y) = pow_mono (let u : y ≤ x + y = omega arith in u) in omega arith)
    (λ c l. h c)

same_bits : (a b : Bool) → bit a ≡ bit b → a ≡ b
same_bits true true e = refl
same_bits true false e = absurd (omega arith)
same_bits false true e = absurd (omega arith)
same_bits false false e = refl

-- COUNTS OF ONE OF MANY
and_count : (b : Bool) (f : Record → Bool) (l : List Record) → b ≡ true → count_line (λ r. b && f r) l ≡ count_line f l
and_count true f l e = refl
and_count false f l e = clash false e refl

and_none : (b : Bool) (f : Record → Bool) (l : List Record) → b ≡ false → count_line (λ r. b && f r) l ≡ 0
and_none b f [] e = refl
and_none b f (r ∷ l) e = let z = and_none b f l e in rw e (let y : count_line (λ r. false && f r) l ≡ 0 = rw e at z in omega arith)

-- PLACES
moving_entered : (p : Place) → moving p ≡ true → entered p ≡ true
moving_entered outside e = e
moving_entered (at s) e = refl
moving_entered (leaving s u) e = refl
moving_entered (travelling s u) e = refl

module _ (L : Lent) (T : TableClauses L) where
  abbrev F : Floor
  F = floor_in L

  abbrev n : ℕ
  n = F.stations

  abbrev k : ℕ
  k = F.carts

  abbrev S : Stations
  S = stations_in L.stations

  abbrev C : Carts
  C = carts_in L.carts

  abbrev R : Rooms
  R = rooms_in L.messages

  abbrev words : List ℕ
  words = L.lines

  abbrev carried : ℕ → ℕ → ℕ
  carried = registers_in words

  abbrev said : ℕ → ℕ → List Said
  said i j = said_on words i j

  abbrev line : ℕ → ℕ → List Record
  line i j = map (read carried) (said i j)

  abbrev Fits : ℕ → ℕ → Said → Type 0
  Fits = Right n k C R carried

  one : OneRoom R
  one = one_room L T

  is : (i j : ℕ) → i < 16 → j < 16 → F.lines i j ≡ line i j
  is = lines_read L

  beyond : (i j : ℕ) → (i < 16 → j < 16 → ⊥) → F.lines i j ≡ []
  beyond = line_beyond words

  place_fits : (p : Place) → True (place_inside (limits_of L.product) F p) → PlaceInRange n p
  place_fits outside h = tt
  place_fits (at s) h = h
  place_fits (leaving s u) h = h
  place_fits (travelling s u) h = h

  -- who is on its way
  movers_bit : (c : ℕ) → c < L.product.carts → has (movers k C) c ≡ moving (C.place c)
  unfolding movers
  movers_bit c l =
      by_lt c k
      (λ b. has_set_of k (λ c. moving (C.place c)) c b)
      (λ b. no_member k (movers k C) c (set_of_lt k (λ c. moving (C.place c))) b
      ∙ sym (by_test (moving (C.place c)) (λ e. absurd (let z = (T.cart c l).1.0 (moving_entered (C.place c) e) in omega arith)) (λ e. e)))

  movers_beyond : (c : ℕ) → k ≤ c → has (movers k C) c ≡ false
  unfolding movers
  movers_beyond c l = no_member k (movers k C) c (set_of_lt k (λ c. moving (C.place c))) l

  abbrev spot : (m c : ℕ) → m < 32 → is_held F m ≡ true → c < 64 → Spot R
  spot m c lm h lc = record { room = m; cart = c; taken = record { slot = lm; held = h }; below = lc }

  -- WITH RIGHT RECORDS ON THE LINES
  module _ (rights : (i j : ℕ) → i < 16 → j < 16 → Each (Fits i j) (said i j)) where
    handoff_total : (c : ℕ) → sum 16 (λ i. sum 16 (λ j. count_line (is_handoff_of c) (line i j))) ≡ count_lines n (λ i j. is_handoff_of c) F.lines
    handoff_total c = total_is n k C R one carried words rights F.lines is beyond T.stations (λ i j. is_handoff_of c)

    ack_total : (m c : ℕ) → sum 16 (λ i. sum 16 (λ j. count_line (acks_to (F.initiator m) (F.number m) c i j) (line i j))) ≡ count_lines n (acks_to (F.initiator m) (F.number m) c) F.lines
    ack_total m c = total_is n k C R one carried words rights F.lines is beyond T.stations (acks_to (F.initiator m) (F.number m) c)

    -- the acknowledgements before the lines
    start_is : (m : ℕ) → m < 32 → (c : ℕ) → c < 64 → (apart : bit (has (gathered S R m n) c) ≡ bit (has (R.acked m) c) + count n (λ t. has (S.acks m t) c))
        → bit (has (get_or (start n k S C R words) m 0) c) + count_lines n (acks_to (F.initiator m) (F.number m) c) F.lines ≡ acks_of (limits_of L.product) F m c
    start_is m lm c lc e =
        let z : get_or (start n k S C R words) m 0 ≡ gathered S R m n = list_of_at 32 (λ m. gathered S R m n) 0 m lm in
        let y : bit (has (get_or (start n k S C R words) m 0) c) ≡ bit (has (gathered S R m n) c) = ap (λ (x : ℕ). bit (has x c)) z in
        omega arith

  -- FROM THE PASS TO THE CLAUSES
  module _ (M : Middle n k S C R words) where
    rights : (i j : ℕ) → i < 16 → j < 16 → Each (Fits i j) (said i j)
    rights i j li lj = (M.alone i j li lj).rights

    near : (j : ℕ) → j < n → j < 16
    near j l = let z = T.stations in omega arith

    the_line : (i : ℕ) → i < 16 → (j : ℕ) → j < 16 → All (λ r. (i < n) × ((j < n) × True (record_rule (limits_of L.product) F i j r))) (F.lines i j)
    the_line i li j lj =
        let Q : Record → Type 0 = λ r. (i < n) × ((j < n) × True (record_rule (limits_of L.product) F i j r)) in
        subst (λ (l : List Record). All Q l) (sym (is i j li lj))
        (all_read carried (Fits i j) Q (said i j)
        (λ r h. (ltb-true i n (and_left (ltb i n) (ltb j n) h.0), (ltb-true j n (and_right (ltb i n) (ltb j n) h.0), fits_rule L T i j r h)))
        (rights i j li lj))

    the_order : (i : ℕ) → i < 16 → (j : ℕ) → j < n → True (counts_up (F.expected j i) (multicast_numbers (F.lines i j)) (F.sent i)) × True (deletes_follow (F.expected j i) (F.lines i j))
    the_order i li j lj =
        let A = M.alone i j li (near j lj) in
        subst (λ (l : List Record). True (counts_up (F.expected j i) (multicast_numbers l) (F.sent i)) × True (deletes_follow (F.expected j i) l)) (sym (is i j li (near j lj)))
        (order_of carried (F.expected j i) (F.sent i) (said i j) A.next (A.upto (lt-ltb j n lj)))

    moving_total : (c : ℕ) → c < L.product.carts → sum n (λ i. sum n (λ j. count_line (is_handoff_of c) (line i j))) ≡ bit (moving (C.place c))
    moving_total c lc =
        let a = found_all_yes n k C R one carried words rights 0 M.found c in
        let b = handoff_total rights c in
        let d : bit (has 0 c) ≡ 0 = rw (has_zero c) refl in
        let f : bit (has (all_found words 0 16) c) ≡ bit (moving (C.place c)) = ap (λ (x : ℕ). bit (has x c)) M.handed ∙ ap bit (movers_bit c lc) in
        let g : count_lines n (λ i j. is_handoff_of c) F.lines ≡ sum n (λ i. sum n (λ j. count_line (is_handoff_of c) (line i j))) =
        sum_ext n (λ i. sum n (λ j. count_line (is_handoff_of c) (F.lines i j))) (λ i. sum n (λ j. count_line (is_handoff_of c) (line i j)))
        (λ i li. sum_ext n (λ j. count_line (is_handoff_of c) (F.lines i j)) (λ j. count_line (is_handoff_of c) (line i j)) (λ j lj. ap (count_line (is_handoff_of c)) (is i j (near i li) (near j lj)))) in
        omega arith

    the_handoffs : (c : ℕ) → c < L.product.carts → (i : ℕ) → i < n → (j : ℕ) → j < n → handoffs c (F.lines i j) ≡ handoff_of (C.place c) i j (list_of 16 (C.next c))
    the_handoffs c lc i li j lj =
        ap (handoffs c) (is i j (near i li) (near j lj))
        ∙ handoffs_due n k C R carried c said (λ i j li lj. rights i j (near i li) (near j lj)) (moving_total c lc) i j li lj

    seen_is : (m : ℕ) → m < 32 → is_held F m ≡ true → (c : ℕ) → c < 64 → bit (has (seen_last n k S C R words m) c) ≡ acks_of (limits_of L.product) F m c
    seen_is m lm h c lc =
        let a = seen_all_yes n k C R one carried words rights (start n k S C R words) (length_list_of 32 (λ m. gathered S R m n)) M.seen (spot m c lm h lc) in
        let b = ack_total rights m c in
        let d = start_is rights m lm c lc (gathered_yes S R m n (M.begins m lm h) c lc) in
        omega arith

    the_acks : (m : ℕ) → m < 32 → is_held F m ≡ true → (c : ℕ) → c < k
        → (acks_of (limits_of L.product) F m c ≤ 1) × (0 < acks_of (limits_of L.product) F m c → (has (F.named m) c ≡ true) × (F.number m < F.next c (F.initiator m)))
    unfolding passed
    the_acks m lm h c lc =
        let l : c < 64 = (let z = T.carts in omega arith) in
        let x = seen_last n k S C R words m in
        let e = seen_is m lm h c l in
        let b = bit_le (has x c) in (
          omega arith,
          λ p. by_test (has x c)
              (λ q. (
                within_has 64 x (F.named m) (M.named m lm h) c l q,
                ltb-true (F.number m) (F.next c (F.initiator m)) (if_at (has x c) (ltb (F.number m) (F.next c (F.initiator m)))
                    (every_at k (λ c. not (has x c) || ltb (F.number m) (F.next c (F.initiator m))) (M.above m lm h) c lc) q),
              ))
              (λ q. absurd (let z : bit (has x c) ≡ 0 = rw q refl in omega arith)),
        )

    the_deletes : (m : ℕ) → m < 32 → is_held F m ≡ true → (t : ℕ) → t < n → count_line (is_delete_of (F.number m)) (F.lines (F.initiator m) t) ≤ 1
    the_deletes m lm h t lt =
        let i = F.initiator m in
        by_lt i 16
        (λ li. let a = gone_line_yes n k C R one carried words rights i t li (near t lt) 0 (M.alone i t li (near t lt)).gone (m, record { slot = lm; held = h }) in
        let b = bit_le (has (walk_gone 0 (said i t)) m) in
        let d = and_count (eqb i (R.initiator m)) (is_delete_of (R.number m)) (line i t) (eqb_self i) in
        let e = ap (count_line (is_delete_of (F.number m))) (is i t li (near t lt)) in
        omega arith)
        (λ li. let e = ap (count_line (is_delete_of (F.number m))) (beyond i t (λ x y. omega arith)) in omega arith)

    pub clauses_of : LineClauses L
    clauses_of =
        record {
          rooms = λ i li j lj. rooms_right_lem L i j (each_map (Fits i j) (λ r. room_said R i j r ≡ true) (said i j) (fits_room L T i j) (rights i j li lj));
          line = the_line;
          order = the_order;
          handoff = λ c lc i li j lj. are_same_handoffs (handoffs c (F.lines i j)) (handoff_of (F.place c) i j (list_of 16 (F.next c))) (the_handoffs c lc i li j lj);
          acks = λ m lm. the_acks m (let z = L.product.held_fit in omega arith);
          deletes = λ m lm. the_deletes m (let z = L.product.held_fit in omega arith);
        }

  -- FROM THE CLAUSES TO THE PASS
  module _ (X : LineClauses L) where
    close : (j : ℕ) → j < n → j < 16
    close j l = let z = T.stations in omega arith

    -- what the form rule says of a record
    abbrev Ruled : ℕ → ℕ → Said → Type 0
    Ruled i j r = (i < n) × ((j < n) × True (record_rule (limits_of L.product) F i j (read carried r)))

    ruled : (i j : ℕ) → i < 16 → j < 16 → Each (Ruled i j) (said i j)
    ruled i j li lj =
        let Q : Record → Type 0 = λ r. (i < n) × ((j < n) × True (record_rule (limits_of L.product) F i j r)) in
        each_read carried Q (said i j) (subst (λ (l : List Record). All Q l) (is i j li lj) (X.line i li j lj))

    -- only lines between stations of the floor have records
    on_floor : (P : Said → Type 0) (i j : ℕ) (l : List Said) → Each (Ruled i j) l → (i < n → j < n → Each P l) → Each P l
    on_floor P i j [] e f = tt
    on_floor P i j (r ∷ l) e f = f e.0.0 e.0.1.0

    handed_off_lem : (c : ℕ) → c < L.product.carts → (i : ℕ) → i < n → (j : ℕ) → j < n → handoffs c (F.lines i j) ≡ handoff_of (C.place c) i j (list_of 16 (C.next c))
    handed_off_lem c lc i li j lj = same_handoffs_are (handoffs c (F.lines i j)) (handoff_of (C.place c) i j (list_of 16 (C.next c))) (X.handoff c lc i li j lj)

    fit : (i j : ℕ) → i < 16 → j < 16 → Each (Fits i j) (said i j)
    fit i j li lj =
        on_floor (Fits i j) i j (said i j) (ruled i j li lj)
        (λ a b. let placed = placed_of carried C i j k (said i j)
        (λ c lc. ap (handoffs c) (sym (is i j li lj)) ∙ handed_off_lem c (let z = T.on_carts_lem in omega arith) i a j b)
        (each_map (Ruled i j) (CartBelow k) (said i j) (λ r h. rule_below L T i j r h.1.1) (ruled i j li lj)) in
        each_map2 (λ r. (room_said R i j r ≡ true) × Ruled i j r) (Placed carried C i j) (Fits i j) (said i j) (λ r h p. rule_fits L T i j r h.0 h.1.0 h.1.1.0 h.1.1.1 p)
        (each_map2 (λ r. room_said R i j r ≡ true) (Ruled i j) (λ r. (room_said R i j r ≡ true) × Ruled i j r) (said i j) (λ r a b. (a, b)) (right_rooms L i j (X.rooms i li j lj)) (ruled i j li lj))
        placed)

    -- ONE LINE
    none_next : (i j e : ℕ) (l : List Said) → Each (Ruled i j) l → n ≤ j → GoodNext e l
    none_next i j e [] r h = tt
    none_next i j e (x ∷ l) r h = absurd (let z = r.0.1.0 in omega arith)

    none_on : (i j : ℕ) → n ≤ j → (f : Record → Bool) → count_line f (F.lines i j) ≡ 0
    none_on i j h f = ap (count_line f) (no_line n k C R one carried words fit F.lines is beyond T.stations i j (λ x y. omega arith))

    one_delete : (i j : ℕ) → i < 16 → j < 16 → (m : ℕ) → Taken R m → count_line (λ r. eqb i (R.initiator m) && is_delete_of (R.number m) r) (line i j) ≤ 1
    one_delete i j li lj m t =
        let f = is_delete_of (R.number m) in
        by_test (eqb i (R.initiator m))
        (λ e. let a = and_count (eqb i (R.initiator m)) f (line i j) e in
        let b = ap (count_line f) (is i j li lj) in
        by_lt j n
        (λ l. let q = eqb-true i (R.initiator m) e in
        let d = X.deletes m (slot L T m t.held) t.held j l in
        let d' : count_line f (F.lines i j) ≤ 1 = subst (λ (x : ℕ). count_line f (F.lines x j) ≤ 1) (sym q) d in
        omega arith)
        (λ l. let d = none_on i j l f in omega arith))
        (λ e. let a = and_none (eqb i (R.initiator m)) f (line i j) e in omega arith)

    lonely : (i j : ℕ) → i < 16 → j < 16 → Alone n k C R S words i j
    lonely i j li lj =
        let ordered : j < n → GoodNext (S.expected j i) (said i j) × (walk_next (S.expected j i) (said i j) ≡ S.sent i) = λ l.
        let o = subst (λ (x : List Record). True (counts_up (F.expected j i) (multicast_numbers x) (F.sent i)) × True (deletes_follow (F.expected j i) x)) (is i j li lj) (X.order i li j l) in
        of_order carried (F.expected j i) (F.sent i) (said i j) o.0 o.1 in
        record {
          rights = fit i j li lj;
          next = by_lt j n (λ l. (ordered l).0) (λ l. none_next i j (S.expected j i) (said i j) (ruled i j li lj) l);
          upto = λ l. (ordered (ltb-true j n l)).1;
          gone = gone_line_no n k C R one carried words fit i j li lj 0
              (λ a. let z : bit (has 0 a.0) ≡ 0 = rw (has_zero a.0) refl in let y = one_delete i j li lj a.0 a.1 in omega arith);
        }

    -- HAND-OFFS
    not_handed_off : (c : ℕ) → k ≤ c → (i j : ℕ) (r : Record) → True (record_rule (limits_of L.product) F i j r) → is_handoff_of c r ≡ false
    not_handed_off c l i j (multicast x) h = refl
    not_handed_off c l i j (ack_list x y) h = refl
    not_handed_off c l i j (delete x) h = refl
    not_handed_off c l i j (deregister d) h = ne_eqb d c (omega arith)
    not_handed_off c l i j (register d row) h = ne_eqb d c (omega arith)

    movers_count : (c : ℕ) → count_lines n (λ i j. is_handoff_of c) F.lines ≡ bit (has (movers k C) c)
    movers_count c =
        by_lt c L.product.carts
        (λ l. let row = list_of 16 (C.next c) in
        sum_ext n (λ i. sum n (λ j. count_line (is_handoff_of c) (F.lines i j))) (λ i. sum n (λ j. due (C.place c) row i j))
        (λ i li. sum_ext n (λ j. count_line (is_handoff_of c) (F.lines i j)) (λ j. due (C.place c) row i j)
        (λ j lj. count_handoffs c (F.lines i j) ∙ ap (λ (x : List HandoffRecord). length x) (handed_off_lem c l i li j lj)))
        ∙ due_total n (C.place c) row (place_fits (C.place c) (T.cart c l).0) ∙ ap bit (sym (movers_bit c l)))
        (λ l. let far : k ≤ c = (let z = T.on_carts_lem in omega arith) in
        count_lines_none n (λ i j. is_handoff_of c) F.lines (λ i j li lj. all_map (F.lines i j) (λ r h. not_handed_off c far i j r h.1.1) (X.line i (close i li) j (close j lj)))
        ∙ ap bit (sym (movers_beyond c far)))

    all_handoffs : (c : ℕ) → bit (has 0 c) + sum 16 (λ i. sum 16 (λ j. count_line (is_handoff_of c) (line i j))) ≡ bit (has (movers k C) c)
    all_handoffs c = let z : bit (has 0 c) ≡ 0 = rw (has_zero c) refl in let y = handoff_total fit c in let w = movers_count c in omega arith

    each_found : AllFound words 0 16
    each_found = found_all_no n k C R one carried words fit 0 (λ c. let z = all_handoffs c in let y = bit_le (has (movers k C) c) in omega arith)

    -- ACKNOWLEDGEMENTS
    not_acked : (m c : ℕ) → k ≤ c → (i j : ℕ) (r : Record) → True (record_rule (limits_of L.product) F i j r) → acks_to (F.initiator m) (F.number m) c i j r ≡ false
    not_acked m c l i j (multicast x) h = and-false (eqb j (F.initiator m))
    not_acked m c l i j (ack_list x y) h = let z = no_member k y c h.1.0 l in rw (z, and-false (eqb x (F.number m)), and-false (eqb j (F.initiator m)))
    not_acked m c l i j (delete x) h = and-false (eqb j (F.initiator m))
    not_acked m c l i j (deregister d) h = and-false (eqb j (F.initiator m))
    not_acked m c l i j (register d row) h = and-false (eqb j (F.initiator m))

    none_acked : (m : ℕ) → is_held F m ≡ true → (c : ℕ) → k ≤ c → acks_of (limits_of L.product) F m c ≡ 0
    none_acked m h c l =
        let a : bit (has (F.acked m) c) ≡ 0 = rw (no_member k (F.acked m) c (T.room m (slot L T m h)).1.0 l) refl in
        let b = count_none n (λ t. has (F.acks m t) c) (λ t lt. no_member k (F.acks m t) c (T.entry m (slot L T m h) t (let z = T.on_stations_lem in omega arith)).1.0 l) in
        let d = count_lines_none n (acks_to (F.initiator m) (F.number m) c) F.lines
        (λ i j li lj. all_map (F.lines i j) (λ r h. not_acked m c l i j r h.1.1) (X.line i (close i li) j (close j lj))) in
        omega arith

    one_ack : (m : ℕ) → m < 32 → is_held F m ≡ true → (c : ℕ) → acks_of (limits_of L.product) F m c ≤ 1
    one_ack m lm h c = by_lt c k (λ l. (X.acks m (slot L T m h) h c l).0) (λ l. let z = none_acked m h c l in omega arith)

    all_apart : (m : ℕ) → m < 32 → is_held F m ≡ true → apart S R m n ≡ true
    all_apart m lm h = gathered_no S R m n (λ c lc. let z = one_ack m lm h c in omega arith)

    all_acks : (a : Spot R) → bit (has (get_or (start n k S C R words) a.room 0) a.cart) + sum 16 (λ i. sum 16 (λ j. count_line (acks_to (F.initiator a.room) (F.number a.room) a.cart i j) (line i j))) ≡ acks_of (limits_of L.product) F a.room a.cart
    all_acks a =
        let m = a.room in
        let c = a.cart in
        let y = ack_total fit m c in
        let z = start_is fit m a.taken.slot c a.below (gathered_yes S R m n (all_apart m a.taken.slot a.taken.held) c a.below) in
        omega arith

    each_seen : AllSeen words (start n k S C R words) 16
    each_seen =
        seen_all_no n k C R one carried words fit (start n k S C R words) (length_list_of 32 (λ m. gathered S R m n))
        (λ a. let z = all_acks a in let y = one_ack a.room a.taken.slot a.taken.held a.cart in omega arith)

    last_is : (m : ℕ) → m < 32 → is_held F m ≡ true → (c : ℕ) → c < 64 → bit (has (seen_last n k S C R words m) c) ≡ acks_of (limits_of L.product) F m c
    last_is m lm h c lc =
        seen_all_yes n k C R one carried words fit (start n k S C R words) (length_list_of 32 (λ m. gathered S R m n)) each_seen (spot m c lm h lc) ∙ all_acks (spot m c lm h lc)

    met_ack : (m : ℕ) → m < 32 → is_held F m ≡ true → (c : ℕ) → c < 64 → has (seen_last n k S C R words m) c ≡ true → 0 < acks_of (limits_of L.product) F m c
    met_ack m lm h c lc e = let z = last_is m lm h c lc in let y : bit (has (seen_last n k S C R words m) c) ≡ 1 = rw e refl in omega arith

    pub middle_from : Middle n k S C R words
    unfolding passed
    middle_from =
        record {
          begins = all_apart;
          alone = lonely;
          found = each_found;
          seen = each_seen;
          handed = same_sets (all_found words 0 16) (movers k C)
              (λ c. same_bits (has (all_found words 0 16) c) (has (movers k C) c) (found_all_yes n k C R one carried words fit 0 each_found c ∙ all_handoffs c));
          named = λ m lm h. let x = seen_last n k S C R words m in
              has_within 64 x (F.named m)
              (λ c lc e. let p = met_ack m lm h c lc e in by_lt c k (λ l. ((X.acks m (slot L T m h) h c l).1 p).0) (λ l. absurd (let z = none_acked m h c l in omega arith)));
          above = λ m lm h. let x = seen_last n k S C R words m in
              every_all k (λ c. not (has x c) || ltb (F.number m) (F.next c (F.initiator m)))
              (λ c l. if_of (has x c) (ltb (F.number m) (F.next c (F.initiator m)))
              (λ e. lt-ltb (F.number m) (F.next c (F.initiator m)) ((X.acks m (slot L T m h) h c l).1 (met_ack m lm h c (let z = T.carts in omega arith) e)).1));
        }

  -- THE THEOREM
  pub lines_clauses : lines_pass L ≡ true → LineClauses L
  unfolding lines_pass
  lines_clauses h = clauses_of (middle_of n k S C R words (and_right (leb n 16 && leb k 64) (passes n k S C R words) h))

  pub clauses_lines : LineClauses L → lines_pass L ≡ true
  unfolding lines_pass
  clauses_lines X =
      and_intro (leb n 16 && leb k 64) (passes n k S C R words)
      (and_intro (leb n 16) (leb k 64) (le-leb n 16 T.stations) (le-leb k 64 T.carts))
      (of_middle n k S C R words (middle_from X))

  -- as tests
  pub pass_is_test : lines_pass L ≡ test (lines_claim L)
  pass_is_test =
      same_test (lines_pass L) (test (lines_claim L))
      (λ e. let X = lines_clauses e in (reflect (lines_claim L)).1 (X.rooms, (X.line, (X.order, (X.handoff, (X.acks, X.deletes))))))
      (λ e. let X = (reflect (lines_claim L)).0 e in
      clauses_lines (record { rooms = X.0; line = X.1.0; order = X.1.1.0; handoff = X.1.1.1.0; acks = X.1.1.1.1.0; deletes = X.1.1.1.1.1 }))
