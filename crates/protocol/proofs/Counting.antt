-- Counts over the records on the lines, and sums.
use mathlib.Core.Path.{refl, sym, ◌∙◌, ◌≡◌}
use mathlib.Core.Bool.{◌&&◌, Bool, cond, false, true}
use mathlib.Core.List.{◌++◌, List, [], ◌∷◌}
use Prim.Native.Nat.{◌*◌, ◌+◌, ◌<◌, suc, zero, ℕ, ◌≤◌}
use native.Mathlib.Omega.{arith}
use lib.Dec.{eqb}
use borrow.Author.Tests.{eqb-false, eqb-true, ne_eqb}
use Rattle.protocol.specs.Folds.{count, sum}
use Rattle.protocol.specs.Floor.{Record, behead, between, put, tail}
use Rattle.protocol.specs.Claims.{All}
use Rattle.protocol.specs.Form.{bit, count_line, count_lines}
use Rattle.protocol.proofs.Tests.{and_intro, both_differ, both_equal, by_test, clash, eqb_self, on_cond}
use Rattle.protocol.proofs.FloorLaws.{on_put}
use Rattle.protocol.proofs.Updates.{all_append, all_map}

-- what is true of each record on those lines
abbrev pub OnLines : ℕ → (ℕ → ℕ → Record → Type 0) → (ℕ → ℕ → List Record) → Type 0
OnLines n P lines = (i j : ℕ) → i < n → j < n → All (P i j) (lines i j)

pub same_bits : (a b : Bool) → bit a ≡ bit b → a ≡ b
same_bits true true e = refl
same_bits true false e = absurd (omega arith)
same_bits false true e = absurd (omega arith)
same_bits false false e = refl

pub bit_le : (b : Bool) → bit b ≤ 1
bit_le true = omega arith
bit_le false = omega arith

-- one line
pub all_any : {P : Record → Type 0} (l : List Record) → ((b : Record) → P b) → All P l
all_any [] f = tt
all_any (b ∷ l) f = (f b, all_any l f)

pub all_map2 : {P Q S : Record → Type 0} (l : List Record) → ((b : Record) → P b → Q b → S b) → All P l → All Q l → All S l
all_map2 [] f p q = tt
all_map2 (b ∷ l) f p q = (f b p.0 q.0, all_map2 l f p.1 q.1)

pub all_rest : (P : Record → Type 0) (l : List Record) → All P l → All P (tail l)
all_rest P [] a = tt
all_rest P (b ∷ l) a = a.1

rest_le : (f : Record → Bool) (l : List Record) → count_line f (tail l) ≤ count_line f l
rest_le f [] = omega arith
rest_le f (b ∷ l) = omega arith

pub count_line_behead : (f : Record → Bool) (i j : ℕ) (lines : ℕ → ℕ → List Record) (k h : ℕ) → count_line f (behead i j lines k h) ≤ count_line f (lines k h)
count_line_behead f i j lines k h = on_cond (λ l. count_line f l ≤ count_line f (lines k h)) (eqb i k && eqb j h) (λ e. rest_le f (lines k h)) (λ e. omega arith)

pub count_line_more : (f : Record → Bool) (l : List Record) (x : Record) → count_line f (l ++ (x ∷ [])) ≡ count_line f l + bit (f x)
count_line_more f [] x = omega arith
count_line_more f (b ∷ l) x = let z = count_line_more f l x in omega arith

pub count_line_none : (f : Record → Bool) (l : List Record) → All (λ b. f b ≡ false) l → count_line f l ≡ 0
count_line_none f [] a = refl
count_line_none f (b ∷ l) a = let z = count_line_none f l a.1 in rw a.0 (omega arith)

pub none_count_line : (f : Record → Bool) (l : List Record) → count_line f l ≡ 0 → All (λ b. f b ≡ false) l
none_count_line f [] e = tt
none_count_line f (b ∷ l) e =
    by_test (f b) (λ t. absurd (let z : 1 + count_line f l ≡ 0 = rw t at e in omega arith)) (λ t. (t, none_count_line f l (let z : 0 + count_line f l ≡ 0 = rw t at e in omega arith)))

-- each record of a line counts in it
pub each_counts : (l : List Record) → All (λ b. (f : Record → Bool) → f b ≡ true → 0 < count_line f l) l
each_counts [] = tt
each_counts (b ∷ l) = (
  (λ f e. let y : bit (f b) ≡ 1 = rw e in omega arith),
  all_map l (λ x h f e. let z = h f e in omega arith) (each_counts l),
)

-- what is true of the records of one line, said of any line
pub on_line : (P : Record → Type 0) (s t : ℕ) (lines : ℕ → ℕ → List Record) → All P (lines s t) → (a b : ℕ) → All (λ x. eqb a s && eqb b t ≡ true → P x) (lines a b)
on_line P s t lines h a b =
    by_test (eqb a s && eqb b t)
    (λ e. let z = both_equal a s b t e in all_map (lines a b) (λ x p q. p) (rw (z.0, z.1) h))
    (λ e. all_any (lines a b) (λ x q. clash (eqb a s && eqb b t) q e))

-- all lines
pub on_lines_map : (n : ℕ) (P Q : ℕ → ℕ → Record → Type 0) (lines : ℕ → ℕ → List Record) → ((i j : ℕ) (b : Record) → P i j b → Q i j b) → OnLines n P lines → OnLines n Q lines
on_lines_map n P Q lines f a i j li lj = all_map (lines i j) (f i j) (a i j li lj)

pub on_lines_put : (n : ℕ) (P : ℕ → ℕ → Record → Type 0) (on : ℕ → ℕ → Bool) (x : Record) (lines : ℕ → ℕ → List Record)
    → OnLines n P lines → ((i j : ℕ) → i < n → j < n → on i j ≡ true → P i j x) → OnLines n P (put on x lines)
on_lines_put n P on x lines a f i j li lj =
    on_put (All (P i j)) on x lines i j (λ e. all_append (P i j) (lines i j) (x ∷ []) (a i j li lj) (f i j li lj e, tt)) (λ e. a i j li lj)

pub on_lines_behead : (n : ℕ) (P : ℕ → ℕ → Record → Type 0) (i j : ℕ) (lines : ℕ → ℕ → List Record) → OnLines n P lines → OnLines n P (behead i j lines)
on_lines_behead n P i j lines a k h lk lh = on_cond (All (P k h)) (eqb i k && eqb j h) (λ e. all_rest (P k h) (lines k h) (a k h lk lh)) (λ e. a k h lk lh)

pub on_lines_head : (n : ℕ) (P : ℕ → ℕ → Record → Type 0) (i j : ℕ) (lines : ℕ → ℕ → List Record) (b : Record) (l : List Record) → lines i j ≡ b ∷ l → i < n → j < n → OnLines n P lines → P i j b
on_lines_head n P i j lines b l e li lj a = let z : All (P i j) (b ∷ l) = rw e at (a i j li lj) in z.0

-- sums
pub sum_ext : (n : ℕ) (f g : ℕ → ℕ) → ((k : ℕ) → k < n → f k ≡ g k) → sum n f ≡ sum n g
unfolding sum
sum_ext zero f g h = refl
sum_ext (suc n) f g h = let z = sum_ext n f g (λ k l. h k (omega arith)) in let y = h n (omega arith) in omega arith

pub sum_add : (n : ℕ) (f g : ℕ → ℕ) → sum n (λ k. f k + g k) ≡ sum n f + sum n g
unfolding sum
sum_add zero f g = refl
sum_add (suc n) f g = let z = sum_add n f g in omega arith

pub sum_zero : (n : ℕ) → sum n (λ k. 0) ≡ 0
unfolding sum
sum_zero zero = refl
sum_zero (suc n) = let z = sum_zero n in omega arith

pub sum_nil : (n : ℕ) (f : ℕ → ℕ) → ((k : ℕ) → k < n → f k ≡ 0) → sum n f ≡ 0
unfolding sum
sum_nil n f h = sum_ext n f (λ k. 0) h ∙ sum_zero n

pub sum_mono : (n : ℕ) (f g : ℕ → ℕ) → ((k : ℕ) → k < n → f k ≤ g k) → sum n f ≤ sum n g
unfolding sum
sum_mono zero f g h = omega arith
sum_mono (suc n) f g h = let z = sum_mono n f g (λ k l. h k (omega arith)) in let y = h n (omega arith) in omega arith

pub sum_le : (n b : ℕ) (f : ℕ → ℕ) → ((k : ℕ) → k < n → f k ≤ b) → sum n f ≤ n * b
unfolding sum
sum_le zero b f h = omega arith
sum_le (suc n) b f h = let z = sum_le n b f (λ k l. h k (omega arith)) in let y = h n (omega arith) in omega arith

pub sum_term : (n : ℕ) (f : ℕ → ℕ) (k : ℕ) → k < n → f k ≤ sum n f
unfolding sum
sum_term zero f k h = absurd (omega arith)
sum_term (suc n) f k h =
    by_test (eqb k n)
    (λ q. rw (eqb-true k n q) (omega arith))
    (λ q. let z : k ≡ n → ⊥ = eqb-false k n q in let y = sum_term n f k (omega arith) in omega arith)

pub sum_swap : (n k : ℕ) (f : ℕ → ℕ → ℕ) → sum n (λ i. sum k (λ j. f i j)) ≡ sum k (λ j. sum n (λ i. f i j))
unfolding sum
sum_swap zero k f = sym (sum_zero k)
sum_swap (suc n) k f = let z = sum_swap n k f in let y = sum_add k (λ j. sum n (λ i. f i j)) (λ j. f n j) in omega arith

-- one term alone is more
pub sum_bump : (n : ℕ) (f g : ℕ → ℕ) (t x : ℕ) → t < n → ((k : ℕ) → k < n → (k ≡ t → ⊥) → f k ≡ g k) → f t ≡ x + g t → sum n f ≡ x + sum n g
unfolding sum
sum_bump zero f g t x lt h e = absurd (omega arith)
sum_bump (suc n) f g t x lt h e =
    by_test (eqb n t)
    (λ q. let y = eqb-true n t q in
    let z = sum_ext n f g (λ k l. h k (omega arith) (λ p. absurd (omega arith))) in
    let e' : f n ≡ x + g n = rw y e in omega arith)
    (λ q. let y : n ≡ t → ⊥ = eqb-false n t q in
    let z = sum_bump n f g t x (omega arith) (λ k l. h k (omega arith)) e in
    let w = h n (omega arith) y in omega arith)

-- one term alone is something
pub sum_only : (n : ℕ) (f : ℕ → ℕ) (t x : ℕ) → ((k : ℕ) → k < n → (k ≡ t → ⊥) → f k ≡ 0) → (t < n → f t ≤ x) → sum n f ≤ x
unfolding sum
sum_only zero f t x h e = omega arith
sum_only (suc n) f t x h e =
    by_test (eqb n t)
    (λ q. let y = eqb-true n t q in
    let z = sum_nil n f (λ k l. h k (omega arith) (λ p. absurd (omega arith))) in
    let e' : f n ≤ x = rw y (e (omega arith)) in omega arith)
    (λ q. let y : n ≡ t → ⊥ = eqb-false n t q in
    let z = sum_only n f t x (λ k l. h k (omega arith)) (λ l. e (omega arith)) in
    let w = h n (omega arith) y in omega arith)

pub sum2_only : (n : ℕ) (f : ℕ → ℕ → ℕ) (a t x : ℕ) → ((i j : ℕ) → i < n → j < n → (i ≡ a → j ≡ t → ⊥) → f i j ≡ 0) → f a t ≤ x → sum n (λ i. sum n (λ j. f i j)) ≤ x
sum2_only n f a t x h e =
    sum_only n (λ i. sum n (λ j. f i j)) a x
    (λ i li ne. sum_nil n (λ j. f i j) (λ j lj. h i j li lj (λ p q. ne p)))
    (λ la. sum_only n (λ j. f a j) t x (λ j lj ne. h a j la lj (λ p q. ne q)) (λ lt. e))

-- counts after a change
pub count_lines_behead : (n : ℕ) (f : ℕ → ℕ → Record → Bool) (i j : ℕ) (lines : ℕ → ℕ → List Record) (b : Record) (l : List Record) → lines i j ≡ b ∷ l → i < n → j < n
    → count_lines n f lines ≡ bit (f i j b) + count_lines n f (behead i j lines)
count_lines_behead n f i j lines b l e li lj =
    sum_bump n (λ k. sum n (λ h. count_line (f k h) (lines k h))) (λ k. sum n (λ h. count_line (f k h) (behead i j lines k h))) i (bit (f i j b)) li
    (λ k lk ne. sum_ext n (λ h. count_line (f k h) (lines k h)) (λ h. count_line (f k h) (behead i j lines k h)) (λ h lh. rw (both_differ i k j h (λ p q. ne (sym p)))))
    (sum_bump n (λ h. count_line (f i h) (lines i h)) (λ h. count_line (f i h) (behead i j lines i h)) j (bit (f i j b)) lj
    (λ h lh ne. rw (both_differ i i j h (λ p q. ne (sym q))))
    (rw (and_intro (eqb i i) (eqb j j) (eqb_self i) (eqb_self j), e)))

pub count_lines_beheaded : (n : ℕ) (f : ℕ → ℕ → Record → Bool) (i j : ℕ) (lines : ℕ → ℕ → List Record) → count_lines n f (behead i j lines) ≤ count_lines n f lines
count_lines_beheaded n f i j lines =
    sum_mono n (λ k. sum n (λ h. count_line (f k h) (behead i j lines k h))) (λ k. sum n (λ h. count_line (f k h) (lines k h)))
    (λ k lk. sum_mono n (λ h. count_line (f k h) (behead i j lines k h)) (λ h. count_line (f k h) (lines k h)) (λ h lh. count_line_behead (f k h) i j lines k h))

pub cnt_put : (n : ℕ) (f : ℕ → ℕ → Record → Bool) (on : ℕ → ℕ → Bool) (x : Record) (lines : ℕ → ℕ → List Record)
    → count_lines n f (put on x lines) ≡ count_lines n f lines + sum n (λ i. sum n (λ j. bit (on i j && f i j x)))
cnt_put n f on x lines =
    sum_ext n (λ i. sum n (λ j. count_line (f i j) (put on x lines i j))) (λ i. sum n (λ j. count_line (f i j) (lines i j)) + sum n (λ j. bit (on i j && f i j x)))
    (λ i li. sum_ext n (λ j. count_line (f i j) (put on x lines i j)) (λ j. count_line (f i j) (lines i j) + bit (on i j && f i j x))
    (λ j lj. by_test (on i j) (λ e. rw e (count_line_more (f i j) (lines i j) x)) (λ e. rw e (omega arith)))
    ∙ sum_add n (λ j. count_line (f i j) (lines i j)) (λ j. bit (on i j && f i j x)))
    ∙ sum_add n (λ i. sum n (λ j. count_line (f i j) (lines i j))) (λ i. sum n (λ j. bit (on i j && f i j x)))

pub count_lines_put_none : (n : ℕ) (f : ℕ → ℕ → Record → Bool) (on : ℕ → ℕ → Bool) (x : Record) (lines : ℕ → ℕ → List Record) → ((i j : ℕ) → on i j ≡ true → f i j x ≡ false)
    → count_lines n f (put on x lines) ≡ count_lines n f lines
count_lines_put_none n f on x lines h =
    let z = cnt_put n f on x lines in
    let y = sum_nil n (λ i. sum n (λ j. bit (on i j && f i j x)))
    (λ i li. sum_nil n (λ j. bit (on i j && f i j x)) (λ j lj. by_test (on i j) (λ e. rw (e, h i j e)) (λ e. rw e))) in
    omega arith

pub count_lines_put_one : (n : ℕ) (f : ℕ → ℕ → Record → Bool) (a b : ℕ) (x : Record) (lines : ℕ → ℕ → List Record) → count_lines n f (put (between a b) x lines) ≤ count_lines n f lines + bit (f a b x)
count_lines_put_one n f a b x lines =
    let z = cnt_put n f (between a b) x lines in
    let y = sum2_only n (λ i j. bit (between a b i j && f i j x)) a b (bit (f a b x))
    (λ i j li lj ne. rw (both_differ a i b j (λ p q. ne (sym p) (sym q))))
    (rw (and_intro (eqb a a) (eqb b b) (eqb_self a) (eqb_self b)) (omega arith)) in
    omega arith

pub count_lines_none : (n : ℕ) (f : ℕ → ℕ → Record → Bool) (lines : ℕ → ℕ → List Record) → OnLines n (λ i j b. f i j b ≡ false) lines → count_lines n f lines ≡ 0
count_lines_none n f lines a =
    sum_nil n (λ i. sum n (λ j. count_line (f i j) (lines i j))) (λ i li. sum_nil n (λ j. count_line (f i j) (lines i j)) (λ j lj. count_line_none (f i j) (lines i j) (a i j li lj)))

pub count_line_le : (n : ℕ) (f : ℕ → ℕ → Record → Bool) (lines : ℕ → ℕ → List Record) (i j : ℕ) → i < n → j < n → count_line (f i j) (lines i j) ≤ count_lines n f lines
count_line_le n f lines i j li lj =
    let a = sum_term n (λ j. count_line (f i j) (lines i j)) j lj in
    let b = sum_term n (λ i. sum n (λ j. count_line (f i j) (lines i j))) i li in
    omega arith

pub none_count_lines : (n : ℕ) (f : ℕ → ℕ → Record → Bool) (lines : ℕ → ℕ → List Record) → count_lines n f lines ≡ 0 → OnLines n (λ i j b. f i j b ≡ false) lines
none_count_lines n f lines e i j li lj = none_count_line (f i j) (lines i j) (let z = count_line_le n f lines i j li lj in omega arith)

pub count_lines_at : (n : ℕ) (f : ℕ → ℕ → Record → Bool) (i j : ℕ) (lines : ℕ → ℕ → List Record) (b : Record) (l : List Record) → lines i j ≡ b ∷ l → i < n → j < n → f i j b ≡ true → 0 < count_lines n f lines
count_lines_at n f i j lines b l e li lj t = let z = count_lines_behead n f i j lines b l e li lj in let y : bit (f i j b) ≡ 1 = rw t in omega arith

pub count_le : (n : ℕ) (f : ℕ → Bool) → count n f ≤ n
unfolding count
count_le zero f = omega arith
count_le (suc n) f = let z = count_le n f in by_test (f n) (λ e. rw e (omega arith)) (λ e. rw e (omega arith))

pub count_ext : (n : ℕ) (f g : ℕ → Bool) → ((k : ℕ) → f k ≡ g k) → count n f ≡ count n g
unfolding count
count_ext zero f g h = refl
count_ext (suc n) f g h = let z = count_ext n f g h in rw (h n, z)

pub count_off : (n : ℕ) (f : ℕ → Bool) (t : ℕ) → t < n → count n f ≡ bit (f t) + count n (λ u. cond (eqb u t) false (f u))
unfolding count
count_off zero f t h = absurd (omega arith)
count_off (suc n) f t h =
    by_test (eqb n t)
    (λ e. let z = eqb-true n t e in let q : f n ≡ f t = rw z in let y = same n f t (omega arith) in rw (e, q) (omega arith))
    (λ e. let z : n ≡ t → ⊥ = eqb-false n t e in let y = count_off n f t (omega arith) in rw e (omega arith))
  where
    same : (n : ℕ) (f : ℕ → Bool) (t : ℕ) → n ≤ t → count n (λ u. cond (eqb u t) false (f u)) ≡ count n f
    same zero f t h = refl
    same (suc n) f t h = rw (ne_eqb n t (omega arith), same n f t (omega arith))

pub count_pos : (n : ℕ) (f : ℕ → Bool) → 0 < count n f → (k : ℕ) × (k < n) × (f k ≡ true)
unfolding count
count_pos zero f h = absurd (omega arith)
count_pos (suc n) f h =
    by_test (f n)
    (λ e. (n, omega arith, e))
    (λ e. let r = count_pos n f (let z : 0 < count n f + 0 = rw e at h in omega arith) in (r.0, omega (arith, r.1), r.2))

pub count_none : (n : ℕ) (f : ℕ → Bool) → ((k : ℕ) → k < n → f k ≡ false) → count n f ≡ 0
unfolding count
count_none zero f h = refl
count_none (suc n) f h = let z = count_none n f (λ k l. h k (omega arith)) in rw (h n (omega arith)) (omega arith)

pub count_at : (n : ℕ) (f : ℕ → Bool) (k : ℕ) → k < n → f k ≡ true → 0 < count n f
count_at n f k h e = let z = count_off n f k h in let y : bit (f k) ≡ 1 = rw e in omega arith

pub count_mono : (n : ℕ) (f g : ℕ → Bool) → ((k : ℕ) → f k ≡ true → g k ≡ true) → count n f ≤ count n g
unfolding count
count_mono zero f g h = omega arith
count_mono (suc n) f g h =
    let z = count_mono n f g h in
    by_test (f n) (λ e. rw (e, h n e) (omega arith)) (λ e. rw e (omega arith))

-- none but t passes, and t is not below n
count_below : (n : ℕ) (f : ℕ → Bool) (t : ℕ) → ((k : ℕ) → k < n → f k ≡ true → k ≡ t) → n ≤ t → count n f ≡ 0
count_below n f t h le = count_none n f (λ k l. by_test (f k) (λ e. absurd (let y = h k l e in omega arith)) (λ e. e))

pub count_one : (n : ℕ) (f : ℕ → Bool) (t : ℕ) → ((k : ℕ) → k < n → f k ≡ true → k ≡ t) → count n f ≤ 1
unfolding count
count_one zero f t h = omega arith
count_one (suc n) f t h =
    by_test (f n)
    (λ e. let y = h n (omega arith) e in
    let z : count n f ≡ 0 = count_below n f t (λ k a b. h k (omega arith) b) (omega arith) in rw e (omega arith))
    (λ e. let z = count_one n f t (λ k a b. h k (omega arith) b) in rw e (omega arith))

-- counting by kinds of a covering family
sum_bit : (n : ℕ) (f : ℕ → Bool) (k : ℕ) → k < n → f k ≡ true → 1 ≤ sum n (λ k. bit (f k))
sum_bit n f k h e = let z = sum_term n (λ k. bit (f k)) k h in let y : bit (f k) ≡ 1 = rw e in omega arith

cover_line : (P : Record → Bool) (n : ℕ) (Q : ℕ → Record → Bool) (l : List Record) → All (λ b. P b ≡ true → (k : ℕ) × (k < n) × (Q k b ≡ true)) l → count_line P l ≤ sum n (λ k. count_line (Q k) l)
cover_line P n Q [] a = omega arith
cover_line P n Q (b ∷ l) a =
    let z = cover_line P n Q l a.1 in
    let y = sum_add n (λ k. bit (Q k b)) (λ k. count_line (Q k) l) in
    by_test (P b)
    (λ e. let h = a.0 e in let s = sum_bit n (λ k. Q k b) h.0 h.1 h.2 in rw e (omega arith))
    (λ e. rw e (omega arith))

pub cover : (n : ℕ) (P : ℕ → ℕ → Record → Bool) (N : ℕ) (Q : ℕ → ℕ → ℕ → Record → Bool) (lines : ℕ → ℕ → List Record)
    → OnLines n (λ i j b. P i j b ≡ true → (k : ℕ) × (k < N) × (Q k i j b ≡ true)) lines → count_lines n P lines ≤ sum N (λ k. count_lines n (Q k) lines)
cover n P N Q lines a =
    let c : ℕ → ℕ → ℕ → ℕ = λ k i j. count_line (Q k i j) (lines i j) in
    let z = sum_mono n (λ i. sum n (λ j. count_line (P i j) (lines i j))) (λ i. sum N (λ k. sum n (λ j. c k i j)))
    (λ i li. let y = sum_mono n (λ j. count_line (P i j) (lines i j)) (λ j. sum N (λ k. c k i j)) (λ j lj. cover_line (P i j) N (λ k. Q k i j) (lines i j) (a i j li lj)) in
    let x = sum_swap n N (λ j k. c k i j) in omega arith) in
    let y = sum_swap n N (λ i k. sum n (λ j. c k i j)) in
    omega arith
