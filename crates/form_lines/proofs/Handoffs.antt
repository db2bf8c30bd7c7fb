-- THE HAND-OFF RECORDS ON THE LINES are those of the carts on their way.
use mathlib.Core.Path.{refl, sym, ap, ◌∙◌, ◌≡◌}
use mathlib.Core.Bool.{Bool, true, false, cond, ◌&&◌}
use mathlib.Core.List.{List, [], ◌∷◌, ◌++◌, map}
use Prim.Native.Nat.{ℕ, zero, suc, ◌≤◌, ◌<◌}
use native.Mathlib.Omega.{arith}
use lib.Dec.{eqb, ltb}
use lib.ListN.{length, get_or}
use lib.Seq.{ext_get_or}
use borrow.Author.Tests.{eqb-true, eq-eqb}
use Rattle.protocol.specs.Folds.{sum, list_of}
use Rattle.protocol.specs.Floor.{Place, outside, at, leaving, travelling, Carts, moving}
use Rattle.protocol.specs.Claims.{True}
use Rattle.protocol.specs.Form.{HandoffRecord, deregistering, registering, bit, count_line, handoffs, handoff_of, same_handoffs}
use Rattle.protocol.specs.Ranges.{PlaceInRange}
use Rattle.protocol.proofs.RecordBound.{count_handoffs}
use Rattle.protocol.proofs.Tests.{by_test, clash, and_left, and_right, and_intro, both_equal, eqb_self, on_cond, every_at, every_all, length_list_of, list_of_at}
use Rattle.protocol.proofs.Counting.{sum_nil, sum_term, sum2_only}
use Rattle.protocol.proofs.LineFacts.{is_handoff_of}
use Rattle.protocol.proofs.FormTest.{handoffs_same}
use Rattle.messages.specs.View.{Rooms}
use Rattle.form_lines.specs.Said.{Said, a_multicast, an_ack_list, a_delete, a_deregister, a_register, unknown}
use Rattle.form_lines.specs.Pass.{is_leaving, is_travelling, same_numbers, right}
use Rattle.form_lines.proofs.Walks.{Each, each_map2}
use Rattle.form_lines.proofs.Split.{Right}
use Rattle.form_lines.proofs.Reading.{read}

pub are_same_handoffs : (l k : List HandoffRecord) → l ≡ k → True (same_handoffs l k)
are_same_handoffs l k e = rw e (handoffs_same k)

-- two rows of the same sixteen numbers are one
pub same_numbers_lem : (f g : ℕ → ℕ) → same_numbers f g ≡ true → list_of 16 f ≡ list_of 16 g
same_numbers_lem f g e =
    ext_get_or 0 (list_of 16 f) (list_of 16 g) (length_list_of 16 f ∙ sym (length_list_of 16 g))
    (λ s l. let h : s < 16 = (let z = length_list_of 16 f in omega arith) in
    list_of_at 16 f 0 s h ∙ eqb-true (f s) (g s) (every_at 16 (λ s. eqb (f s) (g s)) e s h) ∙ sym (list_of_at 16 g 0 s h))

pub numbers_same : (f g : ℕ → ℕ) → list_of 16 f ≡ list_of 16 g → same_numbers f g ≡ true
numbers_same f g e =
    every_all 16 (λ s. eqb (f s) (g s))
    (λ s h. eq-eqb (f s) (g s) (sym (list_of_at 16 f 0 s h) ∙ ap (λ (l : List ℕ). get_or l s 0) e ∙ list_of_at 16 g 0 s h))

-- THE LINE OF A CART ON ITS WAY

-- how many a cart in that place has on the line from i to j
abbrev pub due : Place → List ℕ → ℕ → ℕ → ℕ
due p row i j = length (handoff_of p i j row)

-- a cart that is leaving has a deregister there, one that travels a register
leaving_due : (p : Place) (i j : ℕ) (row : List ℕ) → is_leaving p j i ≡ true → handoff_of p i j row ≡ deregistering ∷ []
leaving_due outside i j row e = clash false e refl
leaving_due (at s) i j row e = clash false e refl
leaving_due (leaving s u) i j row e = rw (and_left (eqb s j) (eqb u i) e, and_right (eqb s j) (eqb u i) e) refl
leaving_due (travelling s u) i j row e = clash false e refl

travelling_due : (p : Place) (i j : ℕ) (row : List ℕ) → is_travelling p i j ≡ true → handoff_of p i j row ≡ registering row ∷ []
travelling_due outside i j row e = clash false e refl
travelling_due (at s) i j row e = clash false e refl
travelling_due (leaving s u) i j row e = clash false e refl
travelling_due (travelling s u) i j row e = rw (and_left (eqb s i) (eqb u j) e, and_right (eqb s i) (eqb u j) e) refl

-- one line alone is due
due_le : (p : Place) (row : List ℕ) (i j : ℕ) → due p row i j ≤ 1
due_le outside row i j = omega arith
due_le (at s) row i j = omega arith
due_le (leaving s u) row i j = on_cond (λ (x : List HandoffRecord). length x ≤ 1) (eqb u i && eqb s j) (λ e. omega arith) (λ e. omega arith)
due_le (travelling s u) row i j = on_cond (λ (x : List HandoffRecord). length x ≤ 1) (eqb s i && eqb u j) (λ e. omega arith) (λ e. omega arith)

-- only the line from u to s
two : (u s i j a b : ℕ) (x : List HandoffRecord) → 0 < length (cond (eqb u i && eqb s j) x []) → 0 < length (cond (eqb u a && eqb s b) x []) → (a ≡ i) × (b ≡ j)
two u s i j a b x g h =
    by_test (eqb u i && eqb s j)
    (λ e. by_test (eqb u a && eqb s b)
    (λ f. let y = both_equal u i s j e in let z = both_equal u a s b f in (sym z.0 ∙ y.0, sym z.1 ∙ y.1))
    (λ f. absurd (let z : 0 < 0 = rw f at h in omega arith)))
    (λ e. absurd (let z : 0 < 0 = rw e at g in omega arith))

due_one : (p : Place) (row : List ℕ) (i j a b : ℕ) → 0 < due p row i j → 0 < due p row a b → (a ≡ i) × (b ≡ j)
due_one outside row i j a b g h = absurd (omega arith)
due_one (at s) row i j a b g h = absurd (omega arith)
due_one (leaving s u) row i j a b g h = two u s i j a b (deregistering ∷ []) g h
due_one (travelling s u) row i j a b g h = two s u i j a b (registering row ∷ []) g h

due_moving : (p : Place) (row : List ℕ) (i j : ℕ) → 0 < due p row i j → moving p ≡ true
due_moving outside row i j h = absurd (omega arith)
due_moving (at s) row i j h = absurd (omega arith)
due_moving (leaving s u) row i j h = refl
due_moving (travelling s u) row i j h = refl

one_due : (n : ℕ) (p : Place) (row : List ℕ) (a b : ℕ) → a < n → b < n → due p row a b ≡ 1 → sum n (λ i. sum n (λ j. due p row i j)) ≡ 1
one_due n p row a b la lb e =
    let x = sum_term n (λ j. due p row a j) b lb in
    let y = sum_term n (λ i. sum n (λ j. due p row i j)) a la in
    let z = sum2_only n (λ i j. due p row i j) a b 1
    (λ i j li lj ne. by_zero (due p row i j) (λ q. let v = due_one p row a b i j (omega arith) q in ne v.0 v.1)) (omega arith) in
    omega arith
  where
    by_zero : (x : ℕ) → (0 < x → ⊥) → x ≡ 0
    by_zero zero h = refl
    by_zero (suc x) h = absurd (h (omega arith))

-- between the stations of the floor: one for a cart on its way, else none
pub due_total : (n : ℕ) (p : Place) (row : List ℕ) → PlaceInRange n p → sum n (λ i. sum n (λ j. due p row i j)) ≡ bit (moving p)
due_total n outside row h = sum_nil n (λ i. sum n (λ j. 0)) (λ i li. sum_nil n (λ j. 0) (λ j lj. refl))
due_total n (at s) row h = sum_nil n (λ i. sum n (λ j. 0)) (λ i li. sum_nil n (λ j. 0) (λ j lj. refl))
due_total n (leaving s u) row h = one_due n (leaving s u) row u s h.1 h.0 (rw (eqb_self u, eqb_self s) refl)
due_total n (travelling s u) row h = one_due n (travelling s u) row s u h.0 h.1 (rw (eqb_self s, eqb_self u) refl)

-- FROM THE COUNTS TO THE RECORDS
module _ (n k : ℕ) (C : Carts) (R : Rooms) (carried : ℕ → ℕ → ℕ) (c : ℕ) where
  abbrev p : Place
  p = C.place c

  abbrev row : List ℕ
  row = list_of 16 (C.next c)

  abbrev of : List Said → List HandoffRecord
  of l = handoffs c (map (read carried) l)

  abbrev times : List Said → ℕ
  times l = count_line (is_handoff_of c) (map (read carried) l)

  abbrev much : List Said → ℕ
  much l = length (of l)

  times_is : (l : List Said) → times l ≡ much l
  times_is l = count_handoffs c (map (read carried) l)

  abbrev again : ℕ → List HandoffRecord → List HandoffRecord
  again zero h = []
  again (suc t) h = h ++ again t h

  -- right records of a cart are what is due, as often as they stand there
  due_again : (i j : ℕ) (l : List Said) → Each (Right n k C R carried i j) l → of l ≡ again (much l) (handoff_of p i j row)
  unfolding right
  due_again i j [] e = refl
  due_again i j (a_multicast m x ∷ l) e = due_again i j l e.1
  due_again i j (an_ack_list m x y ∷ l) e = due_again i j l e.1
  due_again i j (a_delete m x ∷ l) e = due_again i j l e.1
  due_again i j (a_deregister d ∷ l) e =
      by_test (eqb d c)
      (λ q. let z = eqb-true d c q in
      let y : is_leaving p j i ≡ true = ap (λ (x : ℕ). is_leaving (C.place x) j i) (sym z) ∙ and_right (ltb d k) (is_leaving (C.place d) j i) e.0.1 in
      let w = leaving_due p i j row y in
      let v : of l ≡ again (much l) (deregistering ∷ []) = rw (← w) (due_again i j l e.1) in
      rw (q, w) (ap (λ (x : List HandoffRecord). deregistering ∷ x) v))
      (λ q. rw q (due_again i j l e.1))
  due_again i j (a_register d ∷ l) e =
      by_test (eqb d c)
      (λ q. let z = eqb-true d c q in
      let t = is_travelling (C.place d) i j in
      let o = same_numbers (carried d) (C.next d) in
      let a = and_right (ltb d k) (t && o) e.0.1 in
      let y : is_travelling p i j ≡ true = ap (λ (x : ℕ). is_travelling (C.place x) i j) (sym z) ∙ and_left t o a in
      let w = travelling_due p i j row y in
      let u : list_of 16 (carried d) ≡ row = same_numbers_lem (carried d) (C.next d) (and_right t o a) ∙ ap (λ (x : ℕ). list_of 16 (C.next x)) z in
      let v : of l ≡ again (much l) (registering row ∷ []) = rw (← w) (due_again i j l e.1) in
      rw (q, w, u) (ap (λ (x : List HandoffRecord). registering row ∷ x) v))
      (λ q. rw q (due_again i j l e.1))
  due_again i j (unknown d ∷ l) e = clash false e.0.1 refl

  -- some stand there only where they are due
  none_due : (i j : ℕ) (l : List Said) → Each (Right n k C R carried i j) l → due p row i j ≡ 0 → times l ≡ 0
  none_due i j l e h =
      times_is l ∙ ap (λ (x : List HandoffRecord). length x) (due_again i j l e) ∙ nothing (much l) (handoff_of p i j row) h
    where
      nothing : (t : ℕ) (h : List HandoffRecord) → length h ≡ 0 → length (again t h) ≡ 0
      nothing zero h q = refl
      nothing (suc t) [] q = nothing t [] q
      nothing (suc t) (x ∷ h) q = absurd (omega arith)

  module _ (line : ℕ → ℕ → List Said) (e : (i j : ℕ) → i < n → j < n → Each (Right n k C R carried i j) (line i j))
      (total : sum n (λ i. sum n (λ j. times (line i j))) ≡ bit (moving p)) where
    pub handoffs_due : (i j : ℕ) → i < n → j < n → of (line i j) ≡ handoff_of p i j row
    handoffs_due i j li lj =
        due_again i j (line i j) (e i j li lj) ∙ pick (much (line i j)) (handoff_of p i j row) low (λ q. sym (times_is (line i j)) ∙ none_due i j (line i j) (e i j li lj) q)
        (due_le p row i j) high
      where
        at_most : (b : Bool) → bit b ≤ 1
        at_most true = omega arith
        at_most false = omega arith

        low : much (line i j) ≤ 1
        low =
            let w = times_is (line i j) in
            let x = sum_term n (λ j. times (line i j)) j lj in
            let y = sum_term n (λ i. sum n (λ j. times (line i j))) i li in
            let z = at_most (moving p) in
            omega arith

        by_zero : (x : ℕ) → (0 < x → ⊥) → x ≡ 0
        by_zero zero h = refl
        by_zero (suc x) h = absurd (h (omega arith))

        high : 0 < due p row i j → 0 < much (line i j)
        high h =
            let w = times_is (line i j) in
            let m : bit (moving p) ≡ 1 = rw (due_moving p row i j h) refl in
            let z = sum2_only n (λ a b. times (line a b)) i j (times (line i j))
            (λ a b la lb ne. none_due a b (line a b) (e a b la lb) (by_zero (due p row a b) (λ q. let v = due_one p row i j a b h q in ne v.0 v.1)))
            (omega arith) in
            omega arith

        pick : (t : ℕ) (h : List HandoffRecord) → t ≤ 1 → (length h ≡ 0 → t ≡ 0) → length h ≤ 1 → (0 < length h → 0 < t) → again t h ≡ h
        pick zero [] a b d f = refl
        pick zero (x ∷ h) a b d f = absurd (let z = f (omega arith) in omega arith)
        pick (suc zero) [] a b d f = refl
        pick (suc zero) (x ∷ []) a b d f = refl
        pick (suc zero) (x ∷ (y ∷ h)) a b d f = absurd (omega arith)
        pick (suc (suc t)) h a b d f = absurd (omega arith)

-- FROM THE RECORDS TO THE PLACES

-- where a record's cart is on this way, and the row that its register carries
abbrev pub Placed : (ℕ → ℕ → ℕ) → Carts → ℕ → ℕ → Said → Type 0
Placed carried C i j (a_multicast m x) = Unit {0}
Placed carried C i j (an_ack_list m x y) = Unit {0}
Placed carried C i j (a_delete m x) = Unit {0}
Placed carried C i j (a_deregister c) = is_leaving (C.place c) j i ≡ true
Placed carried C i j (a_register c) = (is_travelling (C.place c) i j ≡ true) × (list_of 16 (carried c) ≡ list_of 16 (C.next c))
Placed carried C i j (unknown c) = Unit {0}

-- what a hand-off record of a cart in that place, with that row, says of it
abbrev Says : Place → List ℕ → ℕ → ℕ → HandoffRecord → Type 0
Says p own i j deregistering = is_leaving p j i ≡ true
Says p own i j (registering row) = (is_travelling p i j ≡ true) × (row ≡ own)

abbrev EachHandoff : (HandoffRecord → Type 0) → List HandoffRecord → Type 0
EachHandoff P [] = Unit {0}
EachHandoff P (x ∷ l) = P x × EachHandoff P l

due_says : (p : Place) (i j : ℕ) (row : List ℕ) → EachHandoff (Says p row i j) (handoff_of p i j row)
due_says outside i j row = tt
due_says (at s) i j row = tt
due_says (leaving s u) i j row =
    on_cond (EachHandoff (Says (leaving s u) row i j)) (eqb u i && eqb s j)
    (λ e. (and_intro (eqb s j) (eqb u i) (and_right (eqb u i) (eqb s j) e) (and_left (eqb u i) (eqb s j) e), tt)) (λ e. tt)
due_says (travelling s u) i j row = on_cond (EachHandoff (Says (travelling s u) row i j)) (eqb s i && eqb u j) (λ e. ((e, refl), tt)) (λ e. tt)

-- a hand-off of cart c has it so
abbrev Own : (ℕ → ℕ → ℕ) → Carts → ℕ → ℕ → ℕ → Said → Type 0
Own carried C i j c (a_multicast m x) = Unit {0}
Own carried C i j c (an_ack_list m x y) = Unit {0}
Own carried C i j c (a_delete m x) = Unit {0}
Own carried C i j c (a_deregister d) = eqb d c ≡ true → is_leaving (C.place c) j i ≡ true
Own carried C i j c (a_register d) = eqb d c ≡ true → (is_travelling (C.place c) i j ≡ true) × (list_of 16 (carried d) ≡ list_of 16 (C.next c))
Own carried C i j c (unknown d) = Unit {0}

own_each : (carried : ℕ → ℕ → ℕ) (C : Carts) (i j c : ℕ) (l : List Said) → EachHandoff (Says (C.place c) (list_of 16 (C.next c)) i j) (handoffs c (map (read carried) l)) → Each (Own carried C i j c) l
own_each carried C i j c [] h = tt
own_each carried C i j c (a_multicast m x ∷ l) h = (tt, own_each carried C i j c l h)
own_each carried C i j c (an_ack_list m x y ∷ l) h = (tt, own_each carried C i j c l h)
own_each carried C i j c (a_delete m x ∷ l) h = (tt, own_each carried C i j c l h)
own_each carried C i j c (a_deregister d ∷ l) h =
    by_test (eqb d c)
    (λ e. let z : EachHandoff (Says (C.place c) (list_of 16 (C.next c)) i j) (deregistering ∷ handoffs c (map (read carried) l)) = rw e at h in ((λ q. z.0), own_each carried C i j c l z.1))
    (λ e. let z : EachHandoff (Says (C.place c) (list_of 16 (C.next c)) i j) (handoffs c (map (read carried) l)) = rw e at h in ((λ q. clash (eqb d c) q e), own_each carried C i j c l z))
own_each carried C i j c (a_register d ∷ l) h =
    by_test (eqb d c)
    (λ e. let z : EachHandoff (Says (C.place c) (list_of 16 (C.next c)) i j) (registering (list_of 16 (carried d)) ∷ handoffs c (map (read carried) l)) = rw e at h in ((λ q. z.0), own_each carried C i j c l z.1))
    (λ e. let z : EachHandoff (Says (C.place c) (list_of 16 (C.next c)) i j) (handoffs c (map (read carried) l)) = rw e at h in ((λ q. clash (eqb d c) q e), own_each carried C i j c l z))
own_each carried C i j c (unknown d ∷ l) h =
    by_test (eqb d c)
    (λ e. let z : EachHandoff (Says (C.place c) (list_of 16 (C.next c)) i j) (registering (list_of 16 (carried d)) ∷ handoffs c (map (read carried) l)) = rw e at h in (tt, own_each carried C i j c l z.1))
    (λ e. let z : EachHandoff (Says (C.place c) (list_of 16 (C.next c)) i j) (handoffs c (map (read carried) l)) = rw e at h in (tt, own_each carried C i j c l z))

-- the cart of a hand-off is below k
abbrev pub CartBelow : ℕ → Said → Type 0
CartBelow k (a_multicast m x) = Unit {0}
CartBelow k (an_ack_list m x y) = Unit {0}
CartBelow k (a_delete m x) = Unit {0}
CartBelow k (a_deregister c) = c < k
CartBelow k (a_register c) = c < k
CartBelow k (unknown c) = Unit {0}

each_any : (P : ℕ → Said → Type 0) (k : ℕ) (l : List Said) → ((c : ℕ) → c < k → Each (P c) l) → Each (λ r. (c : ℕ) → c < k → P c r) l
each_any P k [] h = tt
each_any P k (r ∷ l) h = ((λ c q. (h c q).0), each_any P k l (λ c q. (h c q).1))

own_placed : (carried : ℕ → ℕ → ℕ) (C : Carts) (i j k : ℕ) (r : Said) → ((c : ℕ) → c < k → Own carried C i j c r) → CartBelow k r → Placed carried C i j r
own_placed carried C i j k (a_multicast m x) h b = tt
own_placed carried C i j k (an_ack_list m x y) h b = tt
own_placed carried C i j k (a_delete m x) h b = tt
own_placed carried C i j k (a_deregister c) h b = h c b (eqb_self c)
own_placed carried C i j k (a_register c) h b = h c b (eqb_self c)
own_placed carried C i j k (unknown c) h b = tt

pub placed_of : (carried : ℕ → ℕ → ℕ) (C : Carts) (i j k : ℕ) (l : List Said) → ((c : ℕ) → c < k → handoffs c (map (read carried) l) ≡ handoff_of (C.place c) i j (list_of 16 (C.next c)))
    → Each (CartBelow k) l → Each (Placed carried C i j) l
placed_of carried C i j k l h b =
    each_map2 (λ r. (c : ℕ) → c < k → Own carried C i j c r) (CartBelow k) (Placed carried C i j) l (own_placed carried C i j k)
    (each_any (Own carried C i j) k l (λ c q. own_each carried C i j c l (rw (h c q) (due_says (C.place c) i j (list_of 16 (C.next c)))))) b
