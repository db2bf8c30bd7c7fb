use mathlib.Core.Path.{ap, refl, subst, sym, ◌∙◌, ◌≡◌}
use mathlib.Core.Bool.{◌&&◌, false, not, true}
use mathlib.Core.Option.{some}
use mathlib.Core.List.{List, [], ◌∷◌}
use Prim.Native.Nat.{◌<◌, ℕ, ◌≤◌}
use native.Mathlib.Omega.{arith}
use lib.Dec.{eqb}
use borrow.Author.Tests.{eqb-true, ne_eqb, not-true}
use Rattle.protocol.specs.CartSets.{has}
use Rattle.protocol.specs.Floor.{Floor, Limits, Place, Record, ack_list, at, delete, deregister, entered, is_held, leaving, local_to, multicast, outside, register, travelling}
use Rattle.protocol.specs.Groups.{group_count}
use Rattle.protocol.specs.Handoff.{room_of, row_of}
use Rattle.protocol.specs.Claims.{All, Claim, True, eq, is}
use Rattle.protocol.specs.Form.{HandoffRecord, acks_of, acks_to, bit, cart_rule, copy_rule, deregistering, entry_rule, floor_rule, form_rule, group_rule, handoff_of, handoff_rule, handoffs, held_rule, is_ack_of, line_rule, multicast_numbers, order_rule, passes_form, place_inside, reaches, record_rule, registering, room_rule, same_handoffs, same_row, station_rule, store_rule}
use Rattle.protocol.specs.Blank.{BlankBeyond}
use Rattle.protocol.specs.Ranges.{PlaceInRange}
use Rattle.protocol.proofs.Tests.{and-false, both_equal, by_eq, by_lt, by_test, clash, on_cond, on_option}
use Rattle.protocol.proofs.SetLaws.{has_zero, member_below, no_member, same_sets, some_member}
use Rattle.protocol.proofs.FloorLaws.{outside_is}
use Rattle.protocol.proofs.Invariant.{Held, Holds}
use Rattle.protocol.proofs.Updates.{all_map, counts_up_le}
use Rattle.protocol.proofs.CatchUp.{room_some}
use Rattle.protocol.proofs.Counting.{OnLines, all_map2, count_none, count_lines_none}
use Rattle.protocol.proofs.LineFacts.{HeldRecord, LineFacts, Reach, is_handoff_of}
use Rattle.protocol.proofs.FormFacts.{FormFacts, room_of_held}
use Rattle.protocol.proofs.ClaimLaws.{reflect}
use Rattle.protocol.proofs.Sized.{AcksFit, OnFloor, Sized}

-- The form rule's test and its facts say the same, on floors with nothing beyond the limits.
-- HAND-OFF RECORDS

same_row_is : (l k : List ℕ) → True (same_row l k) → l ≡ k
same_row_is [] [] h = refl
same_row_is [] (y ∷ k) h = clash false h refl
same_row_is (x ∷ l) [] h = clash false h refl
same_row_is (x ∷ l) (y ∷ k) h = ap (λ (z : ℕ). z ∷ l) h.0 ∙ ap (λ (z : List ℕ). y ∷ z) (same_row_is l k h.1)

row_same : (l : List ℕ) → True (same_row l l)
row_same [] = refl
row_same (x ∷ l) = (refl, row_same l)

pub same_handoffs_are : (l k : List HandoffRecord) → True (same_handoffs l k) → l ≡ k
same_handoffs_are [] [] h = refl
same_handoffs_are [] (y ∷ k) h = clash false h refl
same_handoffs_are (deregistering ∷ l) [] h = clash false h refl
same_handoffs_are (deregistering ∷ l) (deregistering ∷ k) h = ap (λ (x : List HandoffRecord). deregistering ∷ x) (same_handoffs_are l k h)
same_handoffs_are (deregistering ∷ l) (registering g ∷ k) h = clash false h refl
same_handoffs_are (registering f ∷ l) [] h = clash false h refl
same_handoffs_are (registering f ∷ l) (deregistering ∷ k) h = clash false h refl
same_handoffs_are (registering f ∷ l) (registering g ∷ k) h =
    ap (λ (x : List ℕ). registering x ∷ l) (same_row_is f g h.0) ∙ ap (λ (x : List HandoffRecord). registering g ∷ x) (same_handoffs_are l k h.1)

pub handoffs_same : (l : List HandoffRecord) → True (same_handoffs l l)
handoffs_same [] = refl
handoffs_same (deregistering ∷ l) = handoffs_same l
handoffs_same (registering f ∷ l) = (row_same f, handoffs_same l)

-- lines beyond the floor have no records
pub no_line : (n k i j : ℕ) (l : List Record) → All (OnFloor n k i j) l → (i < n → j < n → ⊥) → l ≡ []
no_line n k i j [] a h = refl
no_line n k i j (r ∷ l) a h = absurd (h a.0.0 a.0.1.0)

-- nor does a cart have a hand-off there
no_handoff : (n : ℕ) (p : Place) (i j : ℕ) (row : List ℕ) → PlaceInRange n p → (i < n → j < n → ⊥) → handoff_of p i j row ≡ []
no_handoff n outside i j row a h = refl
no_handoff n (at s) i j row a h = refl
no_handoff n (leaving s u) i j row a h =
    on_cond (λ x. x ≡ []) (eqb u i && eqb s j) (λ e. let z = both_equal u i s j e in absurd (h (let b = a.1 in let y = z.0 in omega arith) (let b = a.0 in let y = z.1 in omega arith))) (λ e. refl)
no_handoff n (travelling s u) i j row a h =
    on_cond (λ x. x ≡ []) (eqb s i && eqb u j) (λ e. let z = both_equal s i u j e in absurd (h (let b = a.0 in let y = z.0 in omega arith) (let b = a.1 in let y = z.1 in omega arith))) (λ e. refl)

none_handed_off : (c : ℕ) (l : List Record) → All (λ r. is_handoff_of c r ≡ false) l → handoffs c l ≡ []
none_handed_off c [] a = refl
none_handed_off c (multicast n ∷ l) a = none_handed_off c l a.1
none_handed_off c (ack_list n x ∷ l) a = none_handed_off c l a.1
none_handed_off c (delete n ∷ l) a = none_handed_off c l a.1
none_handed_off c (deregister d ∷ l) a = rw a.0 (none_handed_off c l a.1)
none_handed_off c (register d row ∷ l) a = rw a.0 (none_handed_off c l a.1)

-- a set that nobody is in is empty
nobody : (x : ℕ) → ((c : ℕ) → has x c ≡ true → ⊥) → x ≡ 0
nobody x h = same_sets x 0 (λ c. by_test (has x c) (λ e. absurd (h c e)) (λ e. e) ∙ sym (has_zero c))

member_positive : (x c : ℕ) → has x c ≡ true → 0 < x
member_positive x c e = by_eq x 0 (λ z. clash (has 0 c) (rw z at e) (has_zero c)) (λ z. omega arith)

module _ (M : Limits) (F : Floor) where
  -- THE CLAUSES, by name
  pub record Clauses : Type 0 where
    pub floor : True (floor_rule M F)
    pub station : (s : ℕ) → s < M.stations → True (station_rule M F s)
    pub cart : (c : ℕ) → c < M.carts → True (cart_rule M F c)
    pub room : (m : ℕ) → m < M.held → True (room_rule M F m)
    pub held : (m : ℕ) → m < M.held → True (held_rule M F m)
    pub entry : (m : ℕ) → m < M.held → (t : ℕ) → t < M.stations → True (entry_rule M F m t)
    pub copy : (m : ℕ) → m < M.held → is_held F m ≡ true → (t : ℕ) → t < F.stations → True (copy_rule M F m t)
    pub line : (i : ℕ) → i < M.columns → (j : ℕ) → j < M.columns → True (line_rule M F i j)
    pub order : (i : ℕ) → i < M.columns → (j : ℕ) → j < F.stations → True (order_rule M F i j)
    pub handoff : (c : ℕ) → c < M.carts → (i : ℕ) → i < F.stations → (j : ℕ) → j < F.stations → True (handoff_rule M F c i j)
    pub group : (g : ℕ) → g < group_count → True (group_rule M F g)
    pub stored : True (store_rule M F)

  -- the test passes exactly where every clause holds
  pub clauses_of : passes_form M F ≡ true → Clauses
  unfolding passes_form
  clauses_of e =
      let h = (reflect (form_rule M F)).0 e in
      record {
        floor = h.0;
        station = h.1.0;
        cart = h.1.1.0;
        room = h.1.1.1.0;
        held = h.1.1.1.1.0;
        entry = h.1.1.1.1.1.0;
        copy = h.1.1.1.1.1.1.0;
        line = h.1.1.1.1.1.1.1.0;
        order = h.1.1.1.1.1.1.1.1.0;
        handoff = h.1.1.1.1.1.1.1.1.1.0;
        group = h.1.1.1.1.1.1.1.1.1.1.0;
        stored = h.1.1.1.1.1.1.1.1.1.1.1;
      }

  pub passes_of : Clauses → passes_form M F ≡ true
  unfolding passes_form
  passes_of P = (reflect (form_rule M F)).1 (
    P.floor,
    (
      P.station,
      (
        P.cart,
        (P.room, (P.held, (P.entry, (P.copy, (P.line, (P.order, (P.handoff, (P.group, P.stored)))))))),
      ),
    ),
  )

  in_room_lem : (m : ℕ) → m < M.held → is_held F m ≡ true → Held M F.waiting m
  in_room_lem m l e = record { slot = l; some = not-true (eqb (F.waiting m) 0) e }

  is_held_lem : (m : ℕ) → Held M F.waiting m → is_held F m ≡ true
  is_held_lem m h = ap not h.some

  -- FROM THE CLAUSES TO THE FACTS
  module _ (B : BlankBeyond M F) (P : Clauses) where
    place_fits : (p : Place) → True (place_inside M F p) → PlaceInRange F.stations p
    place_fits outside h = tt
    place_fits (at s) h = h
    place_fits (leaving s u) h = h
    place_fits (travelling s u) h = h

    acks_fit : (i j : ℕ) (r : Record) → True (record_rule M F i j r) → AcksFit F.carts r
    acks_fit i j (multicast n) h = tt
    acks_fit i j (ack_list n x) h = h.1.0
    acks_fit i j (delete n) h = tt
    acks_fit i j (deregister c) h = tt
    acks_fit i j (register c row) h = tt

    no_line_beyond : (i j : ℕ) → (i < M.columns → j < M.columns → ⊥) → F.lines i j ≡ []
    no_line_beyond i j h = by_lt i M.columns (λ a. by_lt j M.columns (λ b. absurd (h a b)) (λ b. B.lines.right i j b)) (λ a. B.lines.below i j a)

    pub sized_of : Sized M F
    sized_of =
        record {
          lengths = P.floor.1.0;
          words = P.floor.1.1.0;
          store = P.stored;
          groups = λ g l. ((P.group g l).0, λ c e. (P.group g l).1 c (member_below F.carts (F.groups g) c (P.group g l).0 e) e);
          counts = (let f = P.floor.1.1.1 in record { some_stations = f.0.0; stations = f.0.1; some_carts = f.1.0; carts = f.1.1 });
          numbers = λ s. by_lt s M.stations (λ l. (P.station s l).0) (λ l. let z = B.sent s l in omega arith);
          places = λ c. by_lt c M.carts (λ l. place_fits (F.place c) (P.cart c l).0) (λ l. rw (B.place c l) tt);
          messages = record { named = λ m l. (P.room m l).0; acked = λ m l. (P.room m l).1.0; waiting = λ m l. (P.room m l).1.1.0; text = λ m l. (P.room m l).1.1.1 };
          copies = record { copy = λ m t l k. (P.entry m l t k).0; acks = λ m t l k. (P.entry m l t k).1.0; queue = λ m t l k. (P.entry m l t k).1.1.0 };
          lines = λ i j.
              by_lt i M.columns
              (λ a. by_lt j M.columns
              (λ b. all_map (F.lines i j) (λ r h. (h.0, (h.1.0, acks_fit i j r h.1.1))) (P.line i a j b))
              (λ b. rw (B.lines.right i j b) tt))
              (λ a. rw (B.lines.below i j a) tt);
        }

    -- nobody beyond the floor acknowledges
    none_beyond : (m c : ℕ) → Held M F.waiting m → F.carts ≤ c → acks_of M F m c ≡ 0
    none_beyond m c g l =
        let S = sized_of in
        let a : bit (has (F.acked m) c) ≡ 0 = rw (no_member F.carts (F.acked m) c (S.messages.acked m g.slot) l) in
        let b = count_none F.stations (λ t. has (F.acks m t) c) (λ t k. no_member F.carts (F.acks m t) c (S.copies.acks m t g.slot (let z = S.counts.stations in omega arith)) l) in
        let d = count_lines_none F.stations (acks_to (F.initiator m) (F.number m) c) F.lines (λ i j li lj. all_map (F.lines i j) (λ r h. not_acked j r h.1.1) (S.lines i j)) in
        omega arith
      where
        not_acked : (j : ℕ) (r : Record) → AcksFit F.carts r → eqb j (F.initiator m) && is_ack_of (F.number m) c r ≡ false
        not_acked j (multicast n) h = and-false (eqb j (F.initiator m))
        not_acked j (ack_list n x) h = let z = no_member F.carts x c h l in rw (z, and-false (eqb n (F.number m)), and-false (eqb j (F.initiator m)))
        not_acked j (delete n) h = and-false (eqb j (F.initiator m))
        not_acked j (deregister d) h = and-false (eqb j (F.initiator m))
        not_acked j (register d row) h = and-false (eqb j (F.initiator m))

    reach_of : (s n t : ℕ) (p : ℕ → Claim) → True (reaches M F s n t p) → (r : Reach M F.waiting F.initiator F.number s n t) × True (p r.m)
    reach_of s n t p =
        on_option (λ (q : Claim). True q → (r : Reach M F.waiting F.initiator F.number s n t) × True (p r.m)) (room_of M F s n)
        (λ e h. clash false h refl)
        (λ m e h. let g = room_some M F s n m e in (record { m = m; held = g.0; is_initiator = g.1.0; is_number = g.1.1; waits = h.0 }, h.1))

    record_held : (i j : ℕ) (r : Record) → True (record_rule M F i j r) → HeldRecord M F i j r
    record_held i j (multicast n) h = (reach_of i n j (λ m. is true) h).0
    record_held i j (ack_list n x) h = (
      on_option (λ (q : Claim). True q → Holds M F.waiting F.initiator F.number j n) (room_of M F j n) (λ e h. clash false h refl)
          (λ m e h. let g = room_some M F j n m e in record { m = m; held = g.0; is_initiator = g.1.0; is_number = g.1.1 }) h.0,
      some_member F.carts x h.1.0 h.1.1,
    )
    record_held i j (delete n) h = reach_of i n j (λ m. eq (F.acked m) (F.named m)) h
    record_held i j (deregister d) h = h
    record_held i j (register d row) h = h

    station_limit : (t : ℕ) → t < F.stations → t < M.stations
    station_limit t l = let z = sized_of.counts.stations in omega arith

    column_limit : (t : ℕ) → t < F.stations → t < M.columns
    column_limit t l = let z = sized_of.counts.stations in let w = M.fits in omega arith

    records_held : OnLines F.stations (HeldRecord M F) F.lines
    records_held i j li lj = all_map (F.lines i j) (λ r h. record_held i j r h.1.1) (P.line i (column_limit i li) j (column_limit j lj))

    not_handed_off : (c : ℕ) → F.carts ≤ c → (i j : ℕ) (r : Record) → HeldRecord M F i j r → is_handoff_of c r ≡ false
    not_handed_off c l i j (multicast n) g = refl
    not_handed_off c l i j (ack_list n x) g = refl
    not_handed_off c l i j (delete n) g = refl
    not_handed_off c l i j (deregister d) g = ne_eqb d c (omega arith)
    not_handed_off c l i j (register d row) g = ne_eqb d c (omega arith)

    line_facts : LineFacts M F
    line_facts =
        record {
          order = λ s t lt'. by_lt s M.columns (λ l. (P.order s l t lt').1) (λ l. rw (B.lines.below s t l) refl);
          deleted_acked = λ m t h lt' e. (P.held m h.slot (is_held_lem m h)).1.1.0 t lt' (ap not e);
          records_held = records_held;
          deletes_once = λ m t h l. (P.copy m h.slot (is_held_lem m h) t l).1.1;
          acks_once = λ m c h. by_lt c F.carts (λ l. ((P.held m h.slot (is_held_lem m h)).1.1.1 c l).0) (λ l. let z = none_beyond m c h l in omega arith);
          within = λ m c h p. by_lt c F.carts (λ l. (((P.held m h.slot (is_held_lem m h)).1.1.1 c l).1 p).0) (λ l. absurd (let z = none_beyond m c h l in omega arith));
        }

    handoffs_right : (c i j : ℕ) → handoffs c (F.lines i j) ≡ handoff_of (F.place c) i j (row_of M (F.next c))
    handoffs_right c i j =
        by_lt i F.stations
        (λ a. by_lt j F.stations
        (λ b. by_lt c M.carts
        (λ l. same_handoffs_are (handoffs c (F.lines i j)) (handoff_of (F.place c) i j (row_of M (F.next c))) (P.handoff c l i a j b))
        (λ l. none_handed_off c (F.lines i j) (all_map (F.lines i j) (not_handed_off c (let z = sized_of.counts.carts in omega arith) i j) (records_held i j a b)) ∙ rw (B.place c l)))
        (λ b. beyond (λ x y. omega arith)))
        (λ a. beyond (λ x y. omega arith))
      where
        beyond : (i < F.stations → j < F.stations → ⊥) → handoffs c (F.lines i j) ≡ handoff_of (F.place c) i j (row_of M (F.next c))
        beyond h =
            let z = no_line F.stations F.carts i j (F.lines i j) (sized_of.lines i j) h in
            let y = no_handoff F.stations (F.place c) i j (row_of M (F.next c)) (sized_of.places c) h in
            rw (z, y)

    pub form_of : FormFacts M F
    form_of =
        record {
          low = λ c s. by_lt c M.carts (λ l. by_lt s M.columns (λ k. (P.cart c l).1.1.1 s k) (λ k. let z = B.next.right c s k in omega arith)) (λ l. let z = B.next.below c s l in omega arith);
          run = λ s t lt'. by_lt s M.columns (λ l. (P.order s l t lt').0)
              (λ l. let z = B.lines.below s t l in let y = B.sent s (let w = M.fits in omega arith) in let x = B.expected t s lt' l in rw (z, y, x) refl);
          kept = λ m h. (P.held m h.slot (is_held_lem m h)).0;
          one_room = λ m k a b. (P.held m a.slot (is_held_lem m a)).1.0 k b.slot (is_held_lem k b);
          acked_passed = λ m c h p. by_lt c F.carts (λ l. (((P.held m h.slot (is_held_lem m h)).1.1.1 c l).1 p).1) (λ l. absurd (let z = none_beyond m c h l in omega arith));
          copies = λ m t c h lt' e lc. (P.copy m h.slot (is_held_lem m h) t lt').1.0 e c lc;
          within = λ m t c h lt' e. (P.copy m h.slot (is_held_lem m h) t lt').0 c (member_below F.carts (F.copy m t) c (sized_of.copies.copy m t h.slot (station_limit t lt')) e) e;
          queues = λ m t c e.
              by_lt m M.held
              (λ l. by_lt t M.stations
              (λ k. let q = (P.entry m l t k).1.1.1 c (member_below F.carts (F.queue m t) c (sized_of.copies.queue m t l k) e) e in
              record { held = in_room_lem m l q.0; home = q.1.0; due = q.1.1.0; is_named_lem = q.1.1.1 })
              (λ k. let z = B.queue.right m t k in clash (has 0 c) (rw z at e) (has_zero c)))
              (λ l. let z = B.queue.below m t l in clash (has 0 c) (rw z at e) (has_zero c));
          handoffs_right = handoffs_right;
          out = λ c s e. by_lt c M.carts (λ l. by_lt s M.columns (λ k. (P.cart c l).1.1.0 (rw e) s k) (λ k. B.next.right c s k)) (λ l. B.next.below c s l);
          real = λ c e. by_lt c M.carts (λ l. (P.cart c l).1.0 e) (λ l. let z = B.place c l in clash false (rw z at e) refl);
          on_lines_lem = line_facts;
          started = P.floor.0;
          senders = λ s h. by_lt s F.stations (λ l. l) (λ l. absurd (by_lt s M.stations (λ k. let z = (P.station s k).1 l in omega arith) (λ k. let z = B.sent s k in omega arith)));
          fits = sized_of.counts.stations;
        }

  -- FROM THE FACTS TO THE CLAUSES
  module _ (S : Sized M F) (X : FormFacts M F) where
    place_inside_lem : (p : Place) → PlaceInRange F.stations p → True (place_inside M F p)
    place_inside_lem outside h = refl
    place_inside_lem (at s) h = h
    place_inside_lem (leaving s u) h = h
    place_inside_lem (travelling s u) h = h

    reaches_of : (s n t : ℕ) (p : ℕ → Claim) (r : Reach M F.waiting F.initiator F.number s n t) → True (p r.m) → True (reaches M F s n t p)
    reaches_of s n t p r h =
        let z = room_of_held M F X r.m r.held in
        let z' : room_of M F s n ≡ some r.m = rw (r.is_initiator, r.is_number) at z in
        rw z' (r.waits, h)

    record_rule_lem : (i j : ℕ) (r : Record) → AcksFit F.carts r → HeldRecord M F i j r → True (record_rule M F i j r)
    record_rule_lem i j (multicast n) a g = reaches_of i n j (λ m. is true) g refl
    record_rule_lem i j (ack_list n x) a g =
        let h = g.0 in
        let z = room_of_held M F X h.m h.held in
        let z' : room_of M F j n ≡ some h.m = rw (h.is_initiator, h.is_number) at z in
        (rw z' refl, (a, member_positive x g.1.0 g.1.2))
    record_rule_lem i j (delete n) a g = reaches_of i n j (λ m. eq (F.acked m) (F.named m)) g.0 g.1
    record_rule_lem i j (deregister d) a g = g
    record_rule_lem i j (register d row) a g = g

    line_rule_lem : (i j : ℕ) → True (line_rule M F i j)
    line_rule_lem i j =
        by_lt i F.stations
        (λ a. by_lt j F.stations
        (λ b. all_map2 (F.lines i j) (λ r f g. (f.0, (f.1.0, record_rule_lem i j r f.1.1 g))) (S.lines i j) (X.on_lines_lem.records_held i j a b))
        (λ b. rw (no_line F.stations F.carts i j (F.lines i j) (S.lines i j) (λ x y. omega arith)) tt))
        (λ a. rw (no_line F.stations F.carts i j (F.lines i j) (S.lines i j) (λ x y. omega arith)) tt)

    pub clauses_from : Clauses
    clauses_from =
        let E = X.on_lines_lem in
        record {
          floor = (X.started, (S.lengths, (S.words, ((S.counts.some_stations, S.counts.stations), (S.counts.some_carts, S.counts.carts)))));
          station = λ s l. (S.numbers s, λ k. by_eq (F.sent s) 0 (λ z. z) (λ z. absurd (let y = X.senders s (omega arith) in omega arith)));
          cart = λ c l. (place_inside_lem (F.place c) (S.places c), (X.real c, ((λ e s k. X.out c s (outside_is (F.place c) (not-true (entered (F.place c)) e))), λ s k. X.low c s)));
          room = λ m l. (S.messages.named m l, (S.messages.acked m l, (S.messages.waiting m l, S.messages.text m l)));
          held = λ m l h. let g = in_room_lem m l h in (
            X.kept m g,
            (
              (λ k j b. X.one_room m k g (in_room_lem k j b)),
              ((λ t k e. E.deleted_acked m t g k (not-true (has (F.waiting m) t) e)), (λ c lc. (E.acks_once m c g, λ p. (E.within m c g p, X.acked_passed m c g p)))),
            ),
          );
          entry = λ m l t k. (
            S.copies.copy m t l k,
            (
              S.copies.acks m t l k,
              (S.copies.queue m t l k, λ c lc e. let q = X.queues m t c e in (is_held_lem m q.held, (q.home, (q.due, q.is_named_lem)))),
            ),
          );
          copy = λ m l h t lt'. let g = in_room_lem m l h in ((λ c lc. X.within m t c g lt'), ((λ e c lc. X.copies m t c g lt' e lc), E.deletes_once m t g lt'));
          line = λ i a j b. line_rule_lem i j;
          order = λ i a j b. (X.run i j b, E.order i j b);
          handoff = λ c l i a j b. subst (λ (x : List HandoffRecord). True (same_handoffs (handoffs c (F.lines i j)) x)) (X.handoffs_right c i j) (handoffs_same (handoffs c (F.lines i j)));
          group = λ g l. ((S.groups g l).0, λ c lc. (S.groups g l).1 c);
          stored = S.store;
        }

    -- and there is nothing beyond the limits
    pub blank_from : BlankBeyond M F
    blank_from =
        record {
          sent = λ s l. none_sent s (let z = S.counts.stations in omega arith);
          expected = λ t s lt' l. let z = none_sent s (let z = S.counts.stations in let w = M.fits in omega arith) in let y = counts_up_le (F.expected t s) (multicast_numbers (F.lines s t)) (F.sent s) (X.run s t lt') in omega arith;
          place = λ c l. outside_beyond c (let z = S.counts.carts in omega arith);
          next = record {
            below = λ c s l. X.out c s (outside_beyond c (let z = S.counts.carts in omega arith));
            right = λ c s l. let z = none_sent s (let z = S.counts.stations in let w = M.fits in omega arith) in let y = X.low c s in omega arith;
          };
          queue = record {
            below = λ m t l. nobody (F.queue m t) (λ c e. let z = (X.queues m t c e).held.slot in omega arith);
            right = λ m t l. nobody (F.queue m t) (λ c e. let z = local_on_floor (F.place c) t (S.places c) (X.queues m t c e).home in let y = S.counts.stations in omega arith);
          };
          lines = record {
            below = λ i j l. no_line F.stations F.carts i j (F.lines i j) (S.lines i j) (λ x y. let z = S.counts.stations in let w = M.fits in omega arith);
            right = λ i j l. no_line F.stations F.carts i j (F.lines i j) (S.lines i j) (λ x y. let z = S.counts.stations in let w = M.fits in omega arith);
          };
        }
      where
        none_sent : (s : ℕ) → F.stations ≤ s → F.sent s ≡ 0
        none_sent s l = by_eq (F.sent s) 0 (λ z. z) (λ z. absurd (let y = X.senders s (omega arith) in omega arith))

        outside_beyond : (c : ℕ) → F.carts ≤ c → F.place c ≡ outside
        outside_beyond c l = outside_is (F.place c) (by_test (entered (F.place c)) (λ e. absurd (let z = X.real c e in omega arith)) (λ e. e))

        local_on_floor : (p : Place) (t : ℕ) → PlaceInRange F.stations p → local_to p t ≡ true → t < F.stations
        local_on_floor outside t a e = clash false e refl
        local_on_floor (at s) t a e = rw (← (eqb-true s t e)) a
        local_on_floor (leaving s u) t a e = rw (← (eqb-true s t e)) a.0
        local_on_floor (travelling s u) t a e = clash false e refl
