-- The record bound: held × (stations + stations + carts) + carts.
use mathlib.Core.Path.{ap, refl, sym, ◌∙◌, ◌≡◌}
use mathlib.Core.Bool.{◌&&◌, Bool, false, not, true}
use mathlib.Core.List.{List, [], ◌∷◌}
use Prim.Native.Nat.{◌*◌, ◌+◌, ◌<◌, suc, ℕ, ◌≤◌}
use native.Mathlib.Omega.{arith}
use lib.Dec.{eqb}
use lib.ListN.{length}
use borrow.Author.Tests.{eq-eqb, eqb-true, ne_eqb}
use Rattle.protocol.specs.Folds.{sum}
use Rattle.protocol.specs.CartSets.{has}
use Rattle.protocol.specs.Floor.{Floor, Limits, Place, Record, ack_list, at, delete, deregister, leaving, multicast, on_the_lines, outside, register, travelling}
use Rattle.protocol.specs.Handoff.{row_of}
use Rattle.protocol.specs.Form.{HandoffRecord, acks_to, bit, count_line, count_lines, handoff_of, handoffs, is_delete_of, multicast_numbers}
use Rattle.protocol.proofs.Tests.{and-false, and_intro, and_left, and_right, both_differ, by_test, clash, eqb_self, on_cond}
use Rattle.protocol.specs.Potential.{is_multicast}
use Rattle.protocol.proofs.Invariant.{CountsUp, Held, Holds}
use Rattle.protocol.proofs.Counting.{OnLines, all_any, count_line_none, count_lines_none, cover, on_lines_map, sum_add, sum_ext, sum_le, sum_nil, sum_only, sum2_only}
use Rattle.protocol.proofs.LineFacts.{HeldRecord, LineFacts, is_handoff_of, is_multicast_of, no_multicast_below}

abbrev is_delete : Record → Bool
is_delete (multicast n) = false
is_delete (ack_list n x) = false
is_delete (delete n) = true
is_delete (deregister d) = false
is_delete (register d row) = false

abbrev is_ack_list : Record → Bool
is_ack_list (multicast n) = false
is_ack_list (ack_list n x) = true
is_ack_list (delete n) = false
is_ack_list (deregister d) = false
is_ack_list (register d row) = false

abbrev is_handoff : Record → Bool
is_handoff (multicast n) = false
is_handoff (ack_list n x) = false
is_handoff (delete n) = false
is_handoff (deregister d) = true
is_handoff (register d row) = true

one_kind : (b : Record) → bit (is_multicast b) + (bit (is_delete b) + (bit (is_ack_list b) + bit (is_handoff b))) ≡ 1
one_kind (multicast n) = refl
one_kind (ack_list n x) = refl
one_kind (delete n) = refl
one_kind (deregister d) = refl
one_kind (register d row) = refl

line_kinds : (l : List Record) → length l ≡ count_line is_multicast l + (count_line is_delete l + (count_line is_ack_list l + count_line is_handoff l))
line_kinds [] = refl
line_kinds (b ∷ l) = let z = line_kinds l in let y = one_kind b in omega arith

sum2_add : (n : ℕ) (f g : ℕ → ℕ → ℕ) → sum n (λ i. sum n (λ j. f i j + g i j)) ≡ sum n (λ i. sum n (λ j. f i j)) + sum n (λ i. sum n (λ j. g i j))
sum2_add n f g =
    sum_ext n (λ i. sum n (λ j. f i j + g i j)) (λ i. sum n (λ j. f i j) + sum n (λ j. g i j)) (λ i li. sum_add n (λ j. f i j) (λ j. g i j))
    ∙ sum_add n (λ i. sum n (λ j. f i j)) (λ i. sum n (λ j. g i j))

by_kind : (n : ℕ) (lines : ℕ → ℕ → List Record)
    → on_the_lines n lines ≡ count_lines n (λ i j. is_multicast) lines + (count_lines n (λ i j. is_delete) lines + (count_lines n (λ i j. is_ack_list) lines + count_lines n (λ i j. is_handoff) lines))
by_kind n lines =
    let L : (Record → Bool) → ℕ → ℕ → ℕ = λ f i j. count_line f (lines i j) in
    let e = sum_ext n (λ i. sum n (λ j. length (lines i j))) (λ i. sum n (λ j. L is_multicast i j + (L is_delete i j + (L is_ack_list i j + L is_handoff i j))))
    (λ i li. sum_ext n (λ j. length (lines i j)) (λ j. L is_multicast i j + (L is_delete i j + (L is_ack_list i j + L is_handoff i j))) (λ j lj. line_kinds (lines i j))) in
    let a = sum2_add n (L is_multicast) (λ i j. L is_delete i j + (L is_ack_list i j + L is_handoff i j)) in
    let b = sum2_add n (L is_delete) (λ i j. L is_ack_list i j + L is_handoff i j) in
    let c = sum2_add n (L is_ack_list) (L is_handoff) in
    omega arith

-- a line's multicasts have numbers of their own
one_multicast : (e : ℕ) (l : List Record) (top n : ℕ) → CountsUp e (multicast_numbers l) top → count_line (is_multicast_of n) l ≤ 1
one_multicast e [] top n r = omega arith
one_multicast e (multicast k ∷ l) top n r =
    by_test (eqb k n)
    (λ q. let z = eqb-true k n q in
    let y = count_line_none (is_multicast_of n) l (no_multicast_below (suc e) l top n r.1 (let v = r.0 in omega arith)) in
    rw q (omega arith))
    (λ q. let z = one_multicast (suc e) l top n r.1 in rw q (omega arith))
one_multicast e (ack_list k x ∷ l) top n r = let z = one_multicast e l top n r in omega arith
one_multicast e (delete k ∷ l) top n r = let z = one_multicast e l top n r in omega arith
one_multicast e (deregister c ∷ l) top n r = let z = one_multicast e l top n r in omega arith
one_multicast e (register c row ∷ l) top n r = let z = one_multicast e l top n r in omega arith

-- how many hand-off records of a cart are on a line
pub count_handoffs : (c : ℕ) (l : List Record) → count_line (is_handoff_of c) l ≡ length (handoffs c l)
count_handoffs c [] = refl
count_handoffs c (multicast n ∷ l) = let z = count_handoffs c l in omega arith
count_handoffs c (ack_list n x ∷ l) = let z = count_handoffs c l in omega arith
count_handoffs c (delete n ∷ l) = let z = count_handoffs c l in omega arith
count_handoffs c (deregister d ∷ l) = let z = count_handoffs c l in by_test (eqb d c) (λ e. rw e (omega arith)) (λ e. rw e (omega arith))
count_handoffs c (register d row ∷ l) = let z = count_handoffs c l in by_test (eqb d c) (λ e. rw e (omega arith)) (λ e. rw e (omega arith))

-- a hand-off has one record
one_handoff : (n : ℕ) (p : Place) (f : List ℕ) → sum n (λ i. sum n (λ j. length (handoff_of p i j f))) ≤ 1
one_handoff n outside f = sum2_only n (λ i j. 0) 0 0 1 (λ i j li lj ne. refl) (omega arith)
one_handoff n (at s) f = sum2_only n (λ i j. 0) 0 0 1 (λ i j li lj ne. refl) (omega arith)
one_handoff n (leaving s u) f =
    sum2_only n (λ i j. length (handoff_of (leaving s u) i j f)) u s 1 (λ i j li lj ne. rw (both_differ u i s j (λ p q. ne (sym p) (sym q))))
    (on_cond (λ (x : List HandoffRecord). length x ≤ 1) (eqb u u && eqb s s) (λ e. omega arith) (λ e. omega arith))
one_handoff n (travelling s u) f =
    sum2_only n (λ i j. length (handoff_of (travelling s u) i j f)) s u 1 (λ i j li lj ne. rw (both_differ s i u j (λ p q. ne (sym p) (sym q))))
    (on_cond (λ (x : List HandoffRecord). length x ≤ 1) (eqb s s && eqb u u) (λ e. omega arith) (λ e. omega arith))

module _ (M : Limits) (F : Floor) (X : LineFacts M F)
    (run : (s t : ℕ) → t < F.stations → CountsUp (F.expected t s) (multicast_numbers (F.lines s t)) (F.sent s))
    (about : (c i j : ℕ) → handoffs c (F.lines i j) ≡ handoff_of (F.place c) i j (row_of M (F.next c))) where
  is_taken : ℕ → Bool
  is_taken m = not (eqb (F.waiting m) 0)

  held_is_taken : (m : ℕ) → Held M F.waiting m → is_taken m ≡ true
  unfolding is_taken
  held_is_taken m h = ap not h.some

  -- of a kind of record, each of a held message: at most b for each slot
  kind_at_most : (b : ℕ) (K : Record → Bool) (Q : ℕ → ℕ → ℕ → Record → Bool)
      → OnLines F.stations (λ i j x. K x ≡ true → (m : ℕ) × (Held M F.waiting m) × (Q m i j x ≡ true)) F.lines
      → ((m : ℕ) → Held M F.waiting m → count_lines F.stations (Q m) F.lines ≤ b) → count_lines F.stations (λ i j. K) F.lines ≤ M.held * b
  unfolding is_taken
  kind_at_most b K Q a h =
      let z = cover F.stations (λ i j. K) M.held (λ m i j x. is_taken m && Q m i j x) F.lines
      (on_lines_map F.stations (λ i j x. K x ≡ true → (m : ℕ) × (Held M F.waiting m) × (Q m i j x ≡ true)) (λ i j x. K x ≡ true → (m : ℕ) × (m < M.held) × (is_taken m && Q m i j x ≡ true)) F.lines
      (λ i j x f e. let r = f e in (r.0, r.1.slot, and_intro (is_taken r.0) (Q r.0 i j x) (held_is_taken r.0 r.1) r.2)) a) in
      let y = sum_le M.held b (λ m. count_lines F.stations (λ i j x. is_taken m && Q m i j x) F.lines)
      (λ m lm. by_test (eqb (F.waiting m) 0)
      (λ e. let v = count_lines_none F.stations (λ i j x. is_taken m && Q m i j x) F.lines (λ i j li lj. all_any (F.lines i j) (λ x. rw e)) in omega arith)
      (λ e. let v : count_lines F.stations (λ i j x. not (eqb (F.waiting m) 0) && Q m i j x) F.lines ≡ count_lines F.stations (Q m) F.lines = rw e in
      let w = h m (record { slot = lm; some = e }) in omega arith)) in
      omega arith

  -- multicasts and deletes: one for each held message and station
  sent_at_most : (K : Record → Bool) (B : ℕ → Record → Bool)
      → ((i j : ℕ) (x : Record) → HeldRecord M F i j x → K x ≡ true → (n : ℕ) × (Holds M F.waiting F.initiator F.number i n) × (B n x ≡ true))
      → ((m t : ℕ) → Held M F.waiting m → t < F.stations → count_line (B (F.number m)) (F.lines (F.initiator m) t) ≤ 1)
      → count_lines F.stations (λ i j. K) F.lines ≤ M.held * F.stations
  sent_at_most K B of one =
      kind_at_most F.stations K (λ m i j x. eqb i (F.initiator m) && B (F.number m) x)
      (on_lines_map F.stations (HeldRecord M F) (λ i j x. K x ≡ true → (m : ℕ) × (Held M F.waiting m) × (eqb i (F.initiator m) && B (F.number m) x ≡ true)) F.lines
      (λ i j x g e. let r = of i j x g e in let h = r.1 in
      (h.m, h.held, and_intro (eqb i (F.initiator h.m)) (B (F.number h.m) x) (eq-eqb i (F.initiator h.m) (sym h.is_initiator)) (let q = r.2 in rw h.is_number q)))
      X.records_held)
      (λ m h. sum_only F.stations (λ i. sum F.stations (λ j. count_line (λ x. eqb i (F.initiator m) && B (F.number m) x) (F.lines i j))) (F.initiator m) F.stations
      (λ i li ne. sum_nil F.stations (λ j. count_line (λ x. eqb i (F.initiator m) && B (F.number m) x) (F.lines i j))
      (λ j lj. count_line_none (λ x. eqb i (F.initiator m) && B (F.number m) x) (F.lines i j) (all_any (F.lines i j) (λ x. rw (ne_eqb i (F.initiator m) ne)))))
      (λ li. let z = sum_le F.stations 1 (λ j. count_line (λ x. eqb (F.initiator m) (F.initiator m) && B (F.number m) x) (F.lines (F.initiator m) j)) (λ j lj. rw (eqb_self (F.initiator m)) (one m j h lj)) in omega arith))

  pub multicasts_le : count_lines F.stations (λ i j. is_multicast) F.lines ≤ M.held * F.stations
  multicasts_le = sent_at_most is_multicast is_multicast_of of (λ m t h lt. one_multicast (F.expected t (F.initiator m)) (F.lines (F.initiator m) t) (F.sent (F.initiator m)) (F.number m) (run (F.initiator m) t lt))
    where
      of : (i j : ℕ) (x : Record) → HeldRecord M F i j x → is_multicast x ≡ true → (n : ℕ) × (Holds M F.waiting F.initiator F.number i n) × (is_multicast_of n x ≡ true)
      of i j (multicast n) r e = (n, record { m = r.m; held = r.held; is_initiator = r.is_initiator; is_number = r.is_number }, eqb_self n)
      of i j (ack_list n x) g e = clash false e refl
      of i j (delete n) g e = clash false e refl
      of i j (deregister d) g e = clash false e refl
      of i j (register d row) g e = clash false e refl

  deletes_le : count_lines F.stations (λ i j. is_delete) F.lines ≤ M.held * F.stations
  deletes_le = sent_at_most is_delete is_delete_of of X.deletes_once
    where
      of : (i j : ℕ) (x : Record) → HeldRecord M F i j x → is_delete x ≡ true → (n : ℕ) × (Holds M F.waiting F.initiator F.number i n) × (is_delete_of n x ≡ true)
      of i j (multicast n) g e = clash false e refl
      of i j (ack_list n x) g e = clash false e refl
      of i j (delete n) g e = let r = g.0 in (n, record { m = r.m; held = r.held; is_initiator = r.is_initiator; is_number = r.is_number }, eqb_self n)
      of i j (deregister d) g e = clash false e refl
      of i j (register d row) g e = clash false e refl

  abbrev is_ack_list_of : ℕ → Record → Bool
  is_ack_list_of n (multicast k) = false
  is_ack_list_of n (ack_list k x) = eqb k n
  is_ack_list_of n (delete k) = false
  is_ack_list_of n (deregister d) = false
  is_ack_list_of n (register d row) = false

  -- ack lists: one for each held message and cart
  ack_lists_le : count_lines F.stations (λ i j. is_ack_list) F.lines ≤ M.held * F.carts
  ack_lists_le =
      kind_at_most F.carts is_ack_list (λ m i j x. eqb j (F.initiator m) && is_ack_list_of (F.number m) x)
      (on_lines_map F.stations (HeldRecord M F) (λ i j x. is_ack_list x ≡ true → (m : ℕ) × (Held M F.waiting m) × (eqb j (F.initiator m) && is_ack_list_of (F.number m) x ≡ true)) F.lines of X.records_held)
      (λ m h. let c = cover F.stations (λ i j x. eqb j (F.initiator m) && is_ack_list_of (F.number m) x) F.carts (λ c. acks_to (F.initiator m) (F.number m) c) F.lines
      (on_lines_map F.stations (HeldRecord M F) (λ i j x. eqb j (F.initiator m) && is_ack_list_of (F.number m) x ≡ true → (c : ℕ) × (c < F.carts) × (acks_to (F.initiator m) (F.number m) c i j x ≡ true)) F.lines (to m) X.records_held) in
      let y = sum_le F.carts 1 (λ c. count_lines F.stations (acks_to (F.initiator m) (F.number m) c) F.lines) (λ c lt. let o = X.acks_once m c h in omega arith) in omega arith)
    where
      of : (i j : ℕ) (x : Record) → HeldRecord M F i j x → is_ack_list x ≡ true → (m : ℕ) × (Held M F.waiting m) × (eqb j (F.initiator m) && is_ack_list_of (F.number m) x ≡ true)
      of i j (multicast n) g e = clash false e refl
      of i j (ack_list n x) g e =
          let r = g.0 in
          (r.m, r.held, and_intro (eqb j (F.initiator r.m)) (eqb n (F.number r.m)) (eq-eqb j (F.initiator r.m) (sym r.is_initiator)) (eq-eqb n (F.number r.m) (sym r.is_number)))
      of i j (delete n) g e = clash false e refl
      of i j (deregister d) g e = clash false e refl
      of i j (register d row) g e = clash false e refl

      to : (m i j : ℕ) (x : Record) → HeldRecord M F i j x → eqb j (F.initiator m) && is_ack_list_of (F.number m) x ≡ true → (c : ℕ) × (c < F.carts) × (acks_to (F.initiator m) (F.number m) c i j x ≡ true)
      to m i j (multicast n) g e = clash (eqb j (F.initiator m) && false) e (and-false (eqb j (F.initiator m)))
      to m i j (ack_list n x) g e = (
        g.1.0,
        g.1.1,
        and_intro (eqb j (F.initiator m)) (eqb n (F.number m) && has x g.1.0) (and_left (eqb j (F.initiator m)) (eqb n (F.number m)) e)
            (and_intro (eqb n (F.number m)) (has x g.1.0) (and_right (eqb j (F.initiator m)) (eqb n (F.number m)) e) g.1.2),
      )
      to m i j (delete n) g e = clash (eqb j (F.initiator m) && false) e (and-false (eqb j (F.initiator m)))
      to m i j (deregister d) g e = clash (eqb j (F.initiator m) && false) e (and-false (eqb j (F.initiator m)))
      to m i j (register d row) g e = clash (eqb j (F.initiator m) && false) e (and-false (eqb j (F.initiator m)))

  -- hand-offs: one for each cart
  handoffs_le : count_lines F.stations (λ i j. is_handoff) F.lines ≤ F.carts
  handoffs_le =
      let c = cover F.stations (λ i j. is_handoff) F.carts (λ c i j. is_handoff_of c) F.lines
      (on_lines_map F.stations (HeldRecord M F) (λ i j x. is_handoff x ≡ true → (c : ℕ) × (c < F.carts) × (is_handoff_of c x ≡ true)) F.lines of X.records_held) in
      let y = sum_le F.carts 1 (λ c. count_lines F.stations (λ i j. is_handoff_of c) F.lines)
      (λ c lt. let z = sum_ext F.stations (λ i. sum F.stations (λ j. count_line (is_handoff_of c) (F.lines i j))) (λ i. sum F.stations (λ j. length (handoff_of (F.place c) i j (row_of M (F.next c)))))
      (λ i li. sum_ext F.stations (λ j. count_line (is_handoff_of c) (F.lines i j)) (λ j. length (handoff_of (F.place c) i j (row_of M (F.next c)))) (λ j lj. count_handoffs c (F.lines i j) ∙ ap (λ (l : List HandoffRecord). length l) (about c i j))) in
      let o = one_handoff F.stations (F.place c) (row_of M (F.next c)) in omega arith) in
      omega arith
    where
      of : (i j : ℕ) (x : Record) → HeldRecord M F i j x → is_handoff x ≡ true → (c : ℕ) × (c < F.carts) × (is_handoff_of c x ≡ true)
      of i j (multicast n) g e = clash false e refl
      of i j (ack_list n x) g e = clash false e refl
      of i j (delete n) g e = clash false e refl
      of i j (deregister d) g e = (d, g, eqb_self d)
      of i j (register d row) g e = (d, g, eqb_self d)

  pub room : on_the_lines F.stations F.lines ≤ M.held * (F.stations + F.stations + F.carts) + F.carts
  room = let k = by_kind F.stations F.lines in let a = multicasts_le in let b = deletes_le in let c = ack_lists_le in let d = handoffs_le in omega arith
