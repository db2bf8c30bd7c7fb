-- SUMS OF LISTS, and what the walk over a lent list keeps.
use mathlib.Core.Path.{◌≡◌, ap, ap₂, refl, sym, ◌∙◌, subst}
use mathlib.Core.Bool.{false, cond}
use mathlib.Core.List.{List, [], ◌∷◌, ◌++◌}
use Prim.Native.Nat.{ℕ, zero, suc, ◌+◌, ◌*◌, ◌<◌, ◌≤◌}
use native.Mathlib.Numerals.{add-one}
use native.Mathlib.Omega.{arith}
use lib.Dec.{ltb}
use lib.ListN.{get_or, length, length-append, take}
use borrow.Author.Tests.{le-ltb, lt-ltb, ltb-false}
use borrow.Table.Steps.{cases}
use Rattle.std.specs.Prelude.{Ok, Err}
use Rattle.totals.specs.declared.CartResult.{CartResult}
use Rattle.totals.specs.declared.Tally.{Tally}
use Rattle.totals.specs.declared.TotalsError.TheVariants.{TooLong}
use Rattle.totals.specs.Totals.{InRange, added, counted, joined, joined_if_both, most_counted, most_results, most_total, nothing, sum_of, too_large, Totalled, totals_of}
use Rattle.totals.proofs.Joins.{added_assoc, added_comm, added_nothing, fits, neither_too_large}

nothing_added : (A : Tally) → added nothing A ≡ A
nothing_added A = added_comm nothing A ∙ added_nothing A

sum_append : (l k : List CartResult) → sum_of (l ++ k) ≡ added (sum_of l) (sum_of k)
sum_append [] k = sym (nothing_added (sum_of k))
sum_append (r ∷ l) k = ap (λ (X : Tally). added (counted r) X) (sum_append l k) ∙ sym (added_assoc (counted r) (sum_of l) (sum_of k))

sum_bounded : (l : List CartResult) → InRange l → ((sum_of l).received ≤ length l * most_counted) × ((sum_of l).passed ≤ length l * most_counted)
sum_bounded [] h = (omega arith, omega arith)
sum_bounded (r ∷ l) h =
    let z = sum_bounded l h.1 in
    let a = h.0.0 in let b = h.0.1 in let x = z.0 in let y = z.1 in
    (omega arith, omega arith)

-- 4,096 results of at most 4,294,967,295 stay far below 2^64, two such lists too: 23 arises in joins of joins alone
pub lists_join : (l k : List CartResult) → InRange l → InRange k → length l ≤ most_results → length k ≤ most_results → joined (sum_of l) (sum_of k) ≡ Ok (sum_of (l ++ k))
lists_join l k hl hk nl nk =
    let a = sum_bounded l hl in let b = sum_bounded k hk in
    let p = a.0 in let q = a.1 in let r = b.0 in let s = b.1 in
    sym (neither_too_large (sum_of l) (sum_of k) (omega arith) (omega arith)) ∙ ap Ok (sym (sum_append l k))

pub sum_fits : (l : List CartResult) → InRange l → length l ≤ most_results → too_large (sum_of l) ≡ false
sum_fits l h n =
    let a = sum_bounded l h in let p = a.0 in let q = a.1 in
    fits (sum_of l) (omega arith) (omega arith)

-- the test for a list that is too long
pub if_long : {X : Type 0} (n : ℕ) (x y : X) → most_results < n → x ≡ cond (ltb most_results n) x y
if_long n x y h = rw (lt-ltb most_results n h)

pub if_short : {X : Type 0} (n : ℕ) (x y : X) → n ≤ most_results → y ≡ cond (ltb most_results n) x y
if_short n x y h = rw (le-ltb most_results n h)

pub long_list : (l : List CartResult) → most_results < length l → totals_of l ≡ Err TooLong
unfolding totals_of
long_list l n = sym (if_long (length l) (Err TooLong) (Ok (sum_of l)) n)

pub short_list : (l : List CartResult) → length l ≤ most_results → totals_of l ≡ Ok (sum_of l)
unfolding totals_of
short_list l n = sym (if_short (length l) (Err TooLong) (Ok (sum_of l)) n)

pub answers_join : (l k : List CartResult) → InRange l → InRange k → length (l ++ k) ≤ most_results → totals_of (l ++ k) ≡ joined_if_both (totals_of l) (totals_of k)
answers_join l k hl hk n =
    let e = length-append l k in
    let nl : length l ≤ most_results = omega arith in
    let nk : length k ≤ most_results = omega arith in
    short_list (l ++ k) n ∙ sym (lists_join l k hl hk nl nk) ∙ sym (ap₂ joined_if_both (short_list l nl) (short_list k nk))

-- THE WALK: after i results of the list l

pub record Walked (l : List CartResult) (i : ℕ) (totals : Tally) : Type 0 where
  pub is : totals ≡ sum_of (take i l)
  pub received : totals.received ≤ i * most_counted
  pub passed : totals.passed ≤ i * most_counted

pub walk_begins : (l : List CartResult) → Walked l 0 nothing
walk_begins l = record { is = refl; received = omega arith; passed = omega arith }

-- one result more is the last one added
sum_take : (l : List CartResult) (i : ℕ) (d : CartResult) → i < length l → added (sum_of (take i l)) (counted (get_or l i d)) ≡ sum_of (take (suc i) l)
sum_take [] i d h = absurd (omega arith)
sum_take (r ∷ l) zero d h = added_comm nothing (counted r)
sum_take (r ∷ l) (suc i) d h = added_assoc (counted r) (sum_of (take i l)) (counted (get_or l i d)) ∙ ap (λ (X : Tally). added (counted r) X) (sum_take l i d (omega arith))

pub walk_goes_on : (l : List CartResult) (i : ℕ) (A B : Tally) (d : CartResult) → Walked l i A → i < length l → (get_or l i d).received ≤ most_counted → (get_or l i d).passed ≤ most_counted
    → B ≡ added A (counted (get_or l i d)) → Walked l (i + 1) B
walk_goes_on l i A B d w h r p e =
    let wr = w.received in let wp = w.passed in
    let er : B.received ≡ A.received + (get_or l i d).received = ap (λ (X : Tally). X.received) e in
    let ep : B.passed ≡ A.passed + (get_or l i d).passed = ap (λ (X : Tally). X.passed) e in
    record {
      is = e ∙ ap (λ (X : Tally). added X (counted (get_or l i d))) w.is ∙ sum_take l i d h ∙ ap (λ (n : ℕ). sum_of (take n l)) (sym (add-one i));
      received = omega arith;
      passed = omega arith;
    }

-- while fewer than 4,096 are counted there is room for one more
pub room_for_one : (l : List CartResult) (i : ℕ) (A : Tally) → Walked l i A → i < most_results → (A.received + most_counted ≤ most_total) × (A.passed + most_counted ≤ most_total)
room_for_one l i A w h = let wr = w.received in let wp = w.passed in (omega arith, omega arith)

take_all : (l : List CartResult) → take (length l) l ≡ l
take_all [] = refl
take_all (r ∷ l) = ap (λ (k : List CartResult). r ∷ k) (take_all l)

-- where the walk ends, the answer is the written one
pub walk_answers : (l : List CartResult) (A : Tally) → length l ≤ most_results → Walked l (length l) A → Ok A ≡ totals_of l
walk_answers l A n w = ap Ok (w.is ∙ ap sum_of (take_all l)) ∙ sym (short_list l n)

-- so it is of any list, where none of one that is too long is counted and 22 is answered
pub walk_ends : (l : List CartResult) (t : ℕ) (A : Tally) (r : Totalled) → t ≡ cond (ltb most_results (length l)) 0 (length l) → Walked l t A
    → r ≡ cond (ltb most_results (length l)) (Err TooLong) (Ok A) → r ≡ totals_of l
unfolding totals_of
walk_ends l t A r et w er =
    cases (ltb most_results (length l))
    (λ b. let y : r ≡ Err TooLong = rw b at er in rw b y)
    (λ b. let z : t ≡ length l = rw b at et in
    let y : r ≡ Ok A = rw b at er in
    y ∙ walk_answers l A (ltb-false most_results (length l) b) (subst (λ (n : ℕ). Walked l n A) z w))
