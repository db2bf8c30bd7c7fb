-- Laws of tests at every number, of sums, and of how often a number stands in a list.
use mathlib.Core.Path.{◌≡◌, refl, sym, ap, ap₂, ◌∙◌, subst}
use mathlib.Core.Bool.{Bool, true, false, ◌&&◌}
use mathlib.Core.List.{List, [], ◌∷◌, ◌++◌, map}
use Prim.Native.Nat.{ℕ, zero, suc, ◌+◌, ◌-◌, ◌≤◌, ◌<◌, min}
use native.Mathlib.Numerals.{add-one}
use native.Mathlib.Decide.{ℕ_discrete, dec_le}
use native.Mathlib.Omega.{arith}
use lib.Dec.{eqb, ltb}
use lib.ListN.{length}
use borrow.Author.Tests.{lt-ltb, ltb-true}
use Rattle.protocol.specs.Folds.{every, sum}
use Rattle.protocol.specs.Form.{bit}
use Rattle.protocol.proofs.Tests.{and_left, and_right, by_lt, clash}
use Rattle.protocol.proofs.Counting.{sum_add, sum_bump, sum_term, sum_zero}
use Rattle.lines.specs.Form.{count, all_below, last_of}
use Rattle.lines.proofs.Digits.{same_yes, same_no, below_yes, below_no}

-- ---- tests
pub false_true : false ≡ true → ⊥
false_true e = clash false e refl

pub not_true_false : (b : Bool) → (b ≡ true → ⊥) → false ≡ b
not_true_false true h = absurd (h refl)
not_true_false false h = refl

pub and-true : (a b : Bool) → (a && b) ≡ true → (a ≡ true) × (b ≡ true)
and-true a b e = (and_left a b e, and_right a b e)

pub every_none : (p : ℕ → Bool) → every 0 p ≡ true
unfolding every
every_none p = refl

pub every_more : (p : ℕ → Bool) (n : ℕ) → every n p ≡ true → p n ≡ true → every (n + 1) p ≡ true
unfolding every
every_more p n e q = rw add-one (ap₂ ◌&&◌ e q)

-- ---- sums
pub sum_none : (f : ℕ → ℕ) → sum 0 f ≡ 0
unfolding sum
sum_none f = refl

pub sum_suc : (n : ℕ) (f : ℕ → ℕ) → sum (suc n) f ≡ sum n f + f n
unfolding sum
sum_suc n f = refl

-- two sums that differ at a only
pub sum_one : (n : ℕ) (f g : ℕ → ℕ) (a : ℕ) → a < n → ((k : ℕ) → k < n → (k ≡ a → ⊥) → g k ≡ f k) → sum n g + f a ≡ sum n f + g a
sum_one n f g a h s =
    by_lt (f a) (g a)
    (λ l. omega (arith, sum_bump n g f a (g a - f a) h s (omega arith)))
    (λ l. omega (arith, sum_bump n f g a (f a - g a) h (λ k hk ne. sym (s k hk ne)) (omega arith)))

pub sum_longer : (f : ℕ → ℕ) (n m : ℕ) → n ≤ m → sum n f ≤ sum m f
unfolding sum
sum_longer f n zero h = let e : n ≡ zero = omega arith in subst (λ (x : ℕ). sum x f ≤ 0) (sym e) (omega arith)
sum_longer f n (suc m) h = pick (ℕ_discrete n (suc m)) (λ hm. sum_longer f n m hm)
  where
    pick : Dec (n ≡ suc m) → (n ≤ m → sum n f ≤ sum m f) → sum n f ≤ sum m f + f m
    pick (yes q) rec = subst (λ (x : ℕ). sum x f ≤ sum m f + f m) (sym q) (omega arith)
    pick (no q) rec = omega (arith, rec (omega arith))

-- two parts of a sum
pub sum_terms : (n : ℕ) (f : ℕ → ℕ) (j k : ℕ) → j < k → k < n → f j + f k ≤ sum n f
sum_terms n f j k h hk = omega (arith, sum_longer f (suc k) n hk, sum_suc k f, sum_term k f j h)

-- how many numbers below n are below m
pub sum_below : (m n : ℕ) → sum n (λ x. bit (ltb x m)) ≡ min n m
unfolding sum
sum_below m zero = omega arith
sum_below m (suc n) = pick (sum_below m n) (dec_le (suc n) m)
  where
    pick : sum n (λ x. bit (ltb x m)) ≡ min n m → Dec (suc n ≤ m) → sum n (λ x. bit (ltb x m)) + bit (ltb n m) ≡ min (suc n) m
    pick e (yes h) = omega (arith, below_yes n m h)
    pick e (no h) = omega (arith, below_no n m (omega arith))

-- the one number below n that is x
sum_at : (x n : ℕ) → x < n → sum n (λ y. bit (eqb x y)) ≡ 1
sum_at x n h =
    omega (arith, sum_bump n (λ y. bit (eqb x y)) (λ y. 0) x 1 h (λ k hk ne. same_no x k (λ q. ne (sym q))) (same_yes x x refl), sum_zero n)

-- ---- how often a number stands in a list
pub count_append : (x : ℕ) (a b : List ℕ) → count x (a ++ b) ≡ count x a + count x b
unfolding count
count_append x [] b = omega arith
count_append x (y ∷ a) b = omega (arith, count_append x a b)

pub count_cons : (x y : ℕ) (a : List ℕ) → count x (y ∷ a) ≡ bit (eqb y x) + count x a
unfolding count
count_cons x y a = refl

pub count_end : (x y : ℕ) (a : List ℕ) → count x (a ++ (y ∷ [])) ≡ count x a + bit (eqb y x)
unfolding count
count_end x y a = omega (arith, count_append x a (y ∷ []))

pub below_head : (n x : ℕ) (a : List ℕ) → all_below n (x ∷ a) ≡ true → (x < n) × (all_below n a ≡ true)
unfolding all_below
below_head n x a e = let w = and-true (ltb x n) (all_below n a) e in (ltb-true x n w.0, w.1)

pub below_cons : (n x : ℕ) (a : List ℕ) → x < n → all_below n a ≡ true → all_below n (x ∷ a) ≡ true
unfolding all_below
below_cons n x a h e = ap₂ ◌&&◌ (lt-ltb x n h) e

pub below_end : (n x : ℕ) (a : List ℕ) → x < n → all_below n a ≡ true → all_below n (a ++ (x ∷ [])) ≡ true
unfolding all_below
below_end n x [] h e = below_cons n x [] h e
below_end n x (y ∷ a) h e = let w = below_head n y a e in below_cons n y (a ++ (x ∷ [])) w.0 (below_end n x a h w.1)

-- a list of numbers below n, counted number by number
pub sum_count : (n : ℕ) (a : List ℕ) → all_below n a ≡ true → sum n (λ x. count x a) ≡ length a
unfolding count
sum_count n [] e = sum_zero n
sum_count n (y ∷ a) e =
    let w = below_head n y a e in
    sum_add n (λ x. bit (eqb y x)) (λ x. count x a) ∙ ap₂ ◌+◌ (sum_at y n w.0) (sum_count n a w.1) ∙ one (length a)
  where
    one : (m : ℕ) → 1 + m ≡ suc m
    one m = omega arith

pub last_end : (d x : ℕ) (a : List ℕ) → last_of d (a ++ (x ∷ [])) ≡ x
unfolding last_of
last_end d x [] = refl
last_end d x (y ∷ a) = last_end y x a

-- a number that is not in a list
pub map_same : {A : Type 0} (f g : ℕ → A) (x : ℕ) (a : List ℕ) → count x a ≡ 0 → ((y : ℕ) → (y ≡ x → ⊥) → f y ≡ g y) → map f a ≡ map g a
unfolding count
map_same f g x [] e h = refl
map_same f g x (y ∷ a) e h =
    ap₂ ◌∷◌ (h y (λ q. absurd (omega (arith, e, same_yes y x q)))) (map_same f g x a (omega (arith, e)) h)

pub map_append : {A : Type 0} (f : ℕ → A) (a b : List ℕ) → map f (a ++ b) ≡ map f a ++ map f b
map_append f [] b = refl
map_append f (x ∷ a) b = ap (λ (t : List _). f x ∷ t) (map_append f a b)
