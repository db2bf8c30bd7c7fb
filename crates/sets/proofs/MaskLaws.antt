-- The questions on sets, each answered by one operation on the word.
use mathlib.Core.Path.{◌≡◌, refl, sym, ap, ap₂, ◌∙◌, fun_ext}
use mathlib.Core.Bool.{Bool, true, false, cond, not, ◌&&◌, ◌||◌}
use mathlib.Core.Option.{some}
use Prim.Native.Nat.{ℕ, zero, suc, ◌+◌, ◌-◌, ◌*◌, ◌/◌, ◌%◌, ◌^◌, ◌≤◌, ◌<◌, min}
use native.Mathlib.Nat.{pow-suc, div-one, lt_of_lt_of_le, one-mul, mod-eq_of_lt}
use native.Mathlib.Omega.{arith}
use lib.Dec.{eqb}
use lib.Arith.{lt-one}
use lib.Pow.{pow_pos, pow_mono, pow-lt}
use lib.Bits.{bit_and, and_step, and_shr, or_add_and, and_le_l, and_le_r}
use lib.Count.{ones, ones_step, count_trailing_zeros}
use borrow.Author.Tests.{eq-eqb, eqb-true, ne_eqb}
use Rattle.protocol.specs.Folds.{every, count}
use Rattle.protocol.specs.CartSets.{digit, has, union, minus, with, without, set_of}
use Rattle.protocol.proofs.Tests.{by_test, by_lt, clash, and-true, and_second_false, or_right, or_none, if_at, if_of, same_test, eqb_self, every_at, every_all, first_some, first_is}
use Rattle.protocol.proofs.SetLaws.{digit_lt, op_digit, by_digits, min_small, half_digit, has_zero, has_union, has_minus, has_power, has_with, has_without, union_lt, minus_lt, without_lt, member_below, same_members, zero_below}
use Rattle.sets.specs.Masks.{within, disjoint, least, size}

-- WITHIN, AND DISJOINT

-- where a test of each one below n says whether two sets agree on it, every one passes when the sets are equal
equal_sets : (n x y : ℕ) (f : ℕ → Bool) → x < 2 ^ n → y < 2 ^ n
    → ((c : ℕ) → has x c ≡ has y c → f c ≡ true) → ((c : ℕ) → f c ≡ true → has x c ≡ has y c)
    → eqb x y ≡ every n f
equal_sets n x y f hx hy to from =
    same_test (eqb x y) (every n f)
    (λ e. every_all n f (λ c l. to c (ap (λ (z : ℕ). has z c) (eqb-true x y e))))
    (λ e. eq-eqb x y (same_members n x y hx hy (λ c l. from c (every_at n f e c l))))

none_left : (a b : Bool) → a && not b ≡ false → not a || b ≡ true
none_left true true e = refl
none_left true false e = sym e
none_left false b e = refl

left_none : (a b : Bool) → not a || b ≡ true → a && not b ≡ false
left_none true true e = refl
left_none true false e = sym e
left_none false b e = refl

all_left : (a b : Bool) → a && not b ≡ a → not (a && b) ≡ true
all_left true true e = e
all_left true false e = refl
all_left false b e = refl

left_all : (a b : Bool) → not (a && b) ≡ true → a && not b ≡ a
left_all true true e = e
left_all true false e = refl
left_all false b e = refl

-- a set is within another when the other leaves nothing of it
pub within_minus : (n x y : ℕ) → x < 2 ^ n → eqb (minus x y) 0 ≡ within n x y
unfolding within
within_minus n x y h =
    equal_sets n (minus x y) 0 (λ c. not (has x c) || has y c) (minus_lt n x y h) (zero_below n)
    (λ c e. none_left (has x c) (has y c) (sym (has_minus x y c) ∙ e ∙ has_zero c))
    (λ c e. has_minus x y c ∙ left_none (has x c) (has y c) e ∙ sym (has_zero c))

-- two sets have none in common when one leaves all of the other
pub disjoint_minus : (n x y : ℕ) → x < 2 ^ n → eqb (minus x y) x ≡ disjoint n x y
unfolding disjoint
disjoint_minus n x y h =
    equal_sets n (minus x y) x (λ c. not (has x c && has y c)) (minus_lt n x y h) h
    (λ c e. all_left (has x c) (has y c) (sym (has_minus x y c) ∙ e))
    (λ c e. has_minus x y c ∙ left_all (has x c) (has y c) e)

-- for a set below 2^n, those below n decide
module _ (n m x y : ℕ) (h : x < 2 ^ n) (l : n ≤ m) where
  pub within_wider : within m x y ≡ within n x y
  within_wider = sym (within_minus m x y (lt_of_lt_of_le h (pow_mono l))) ∙ within_minus n x y h

  pub disjoint_wider : disjoint m x y ≡ disjoint n x y
  disjoint_wider = sym (disjoint_minus m x y (lt_of_lt_of_le h (pow_mono l))) ∙ disjoint_minus n x y h

-- whoever is in the smaller set is in the larger, and the other way round
pub within_has : (n x y : ℕ) → within n x y ≡ true → (c : ℕ) → c < n → has x c ≡ true → has y c ≡ true
unfolding within
within_has n x y e c l h = if_at (has x c) (has y c) (every_at n (λ d. not (has x d) || has y d) e c l) h

pub has_within : (n x y : ℕ) → ((c : ℕ) → c < n → has x c ≡ true → has y c ≡ true) → within n x y ≡ true
unfolding within
has_within n x y h = every_all n (λ d. not (has x d) || has y d) (λ c l. if_of (has x c) (has y c) (h c l))

-- whoever is in one of two sets with none in common is not in the other
pub disjoint_has : (n x y : ℕ) → disjoint n x y ≡ true → (c : ℕ) → c < n → has x c ≡ true → has y c ≡ false
unfolding disjoint
disjoint_has n x y e c l h = other (has x c) (has y c) (every_at n (λ d. not (has x d && has y d)) e c l) h
  where
    other : (a b : Bool) → not (a && b) ≡ true → a ≡ true → b ≡ false
    other true true p q = sym p
    other true false p q = refl
    other false b p q = clash false q refl

-- ONE MORE, AND ONE LESS: it is there, or gone, and nothing else changed

pub with_here : (x c : ℕ) → has (with x c) c ≡ true
with_here x c = has_with x c c ∙ or_right (has x c) (eqb c c) (eqb_self c)

pub without_here : (x c : ℕ) → has (without x c) c ≡ false
without_here x c = has_without x c c ∙ and_second_false (has x c) (not (eqb c c)) (ap not (eqb_self c))

module _ (x c d : ℕ) (other : c ≡ d → ⊥) where
  pub with_other : has (with x c) d ≡ has x d
  with_other = has_with x c d ∙ rw (ne_eqb c d other) (or_none (has x d))

  pub without_other : has (without x c) d ≡ has x d
  without_other = has_without x c d ∙ rw (ne_eqb c d other) (and-true (has x d))

-- A DIGIT AT A TIME

-- a digit says whether its cart is in the set
pub digit_is : (x c : ℕ) → digit x c ≡ cond (has x c) 1 0
unfolding has
digit_is x c = by_digits (λ a b. a ≡ cond (eqb a 1) 1 0) refl refl refl refl (digit x c) (digit x c) (digit_lt x c) (digit_lt x c)

-- the lowest digit says whether 0 is
low_digit : (x : ℕ) → x % 2 ≡ cond (has x 0) 1 0
low_digit x = ap (λ (y : ℕ). y % 2) (sym (div-one x)) ∙ digit_is x 0

-- the digits above it are the set of those one less
has_half : (x c : ℕ) → has (x / 2) c ≡ has x (suc c)
unfolding has
has_half x c = ap (λ (d : ℕ). eqb d 1) (half_digit x c)

-- so a set is made from its last member down: twice those one less, and the lowest digit
pub set_of_low : (n : ℕ) (f : ℕ → Bool) → set_of (suc n) f ≡ set_of n (λ c. f (suc c)) * 2 + cond (f 0) 1 0
unfolding set_of
set_of_low zero f = by_test (f 0) (λ e. rw e) (λ e. rw e)
set_of_low (suc n) f =
    let z = set_of_low n f in
    let p = pow-suc 2 n in
    by_test (f (suc n)) (λ e. rw e (omega arith)) (λ e. rw e (omega arith))

half_lt : (n x : ℕ) → x < 2 ^ suc n → x / 2 < 2 ^ n
half_lt n x h = let p = pow-suc 2 n in omega arith

-- HOW MANY

count_low : (n : ℕ) (f : ℕ → Bool) → count (suc n) f ≡ cond (f 0) 1 0 + count n (λ c. f (suc c))
unfolding count
count_low zero f = omega arith
count_low (suc n) f = let z = count_low n f in omega arith

-- the set digits are the members
pub ones_size : (n x : ℕ) → x < 2 ^ n → ones x ≡ size n x
unfolding size count ones
ones_size zero x h = ap ones (lt-one h)
ones_size (suc n) x h =
    ones_step x
    ∙ ap₂ ◌+◌ (low_digit x) (ones_size n (x / 2) (half_lt n x h) ∙ ap (count n) (fun_ext (has_half x)))
    ∙ sym (count_low n (has x))

-- THE LEAST

-- the lowest set digit: it is a member, and none below it is
pub record Lowest (n x t : ℕ) : Type 0 where
  pub inside : t < n
  pub member : has x t ≡ true
  pub before : (c : ℕ) → c < t → has x c ≡ false

lowest : (n x : ℕ) → x < 2 ^ n → 0 < x → Lowest n x (count_trailing_zeros n x)
unfolding count_trailing_zeros
lowest zero x h pos = absurd (omega arith)
lowest (suc n) x h pos =
    by_test (has x 0)
    (λ e. let z : x % 2 ≡ 1 = low_digit x ∙ ap (λ (b : Bool). cond b 1 0) e in
    rw z (record { inside = omega arith; member = e; before = λ c l. absurd (omega arith) }))
    (λ e. let z : x % 2 ≡ 0 = low_digit x ∙ ap (λ (b : Bool). cond b 1 0) e in
    let r = lowest n (x / 2) (half_lt n x h) (omega arith) in
    rw z (record { inside = omega (arith, r.inside); member = sym (has_half x (count_trailing_zeros n (x / 2))) ∙ r.member; before = above e r.before }))
  where
    above : has x 0 ≡ false → {t : ℕ} → ((c : ℕ) → c < t → has (x / 2) c ≡ false) → (c : ℕ) → c < suc t → has x c ≡ false
    above e g zero l = e
    above e g (suc c) l = sym (has_half x c) ∙ g c (omega arith)

-- the zeros below the lowest set digit are as many as its weight's exponent
pub trailing_least : (n x : ℕ) → x < 2 ^ n → 0 < x → least n x ≡ some (count_trailing_zeros n x)
unfolding least
trailing_least n x h pos =
    let r = lowest n x h pos in first_is n (has x) (count_trailing_zeros n x) r.inside r.member r.before

-- the least of a set is a member
pub least_member : (n x t : ℕ) → least n x ≡ some t → (t < n) × (has x t ≡ true)
unfolding least
least_member n x t e = first_some n (has x) t e

-- the least of a set that is not empty is a member, and none below it is
pub least_lowest : (n x t : ℕ) → x < 2 ^ n → 0 < x → least n x ≡ some t → Lowest n x t
least_lowest n x t h pos e = let z : count_trailing_zeros n x ≡ t = cc (trailing_least n x h pos) in rw z at (lowest n x h pos)

-- taking one out leaves less, so that a walk from the least to the next ends
pub without_less : (n x c : ℕ) → x < 2 ^ n → has x c ≡ true → without x c < x
unfolding without union
without_less n x c h e =
    let y = without x c in
    let back : union y (2 ^ c) ≡ x = same_members n (union y (2 ^ c)) x (union_lt n y (2 ^ c) (without_lt n x c h) (pow-lt (member_below n x c h e))) h (λ d l. again d) in
    let sum = or_add_and y (2 ^ c) in
    let most = and_le_r y (2 ^ c) in
    by_lt y x (λ l. l)
    (λ l. let same : y ≡ x = omega arith in
    clash (has x c) e (ap (λ (z : ℕ). has z c) (sym same) ∙ without_here x c))
  where
    rejoined : (a b : Bool) → (b ≡ true → a ≡ true) → (a && not b) || b ≡ a
    rejoined true true f = refl
    rejoined true false f = refl
    rejoined false true f = sym (f refl)
    rejoined false false f = refl

    again : (d : ℕ) → has (union (without x c) (2 ^ c)) d ≡ has x d
    again d =
        has_union (without x c) (2 ^ c) d
        ∙ ap₂ ◌||◌ (has_without x c d) (has_power c d)
        ∙ rejoined (has x d) (eqb c d) (λ q. ap (has x) (sym (eqb-true c d q)) ∙ e)

-- ONE LESS THAN A SET: the digits above the lowest are the same, and the lowest is gone
none_low : (x : ℕ) → x % 2 ≡ 0 → has x 0 ≡ false
none_low x h =
    by_test (has x 0)
    (λ e. absurd (let z : x % 2 ≡ 1 = low_digit x ∙ ap (λ (b : Bool). cond b 1 0) e in omega arith))
    (λ e. e)

record OneLess (t x : ℕ) : Type 0 where
  pub gone : has (x - 1) t ≡ false
  pub same : (d : ℕ) → t < d → has (x - 1) d ≡ has x d

-- an odd number
less_odd : (x : ℕ) → has x 0 ≡ true → OneLess 0 x
less_odd x e = record { gone = none_low (x - 1) (let z = odd in omega arith); same = same }
  where
    odd : x % 2 ≡ 1
    odd = low_digit x ∙ ap (λ (b : Bool). cond b 1 0) e

    half : (x - 1) / 2 ≡ x / 2
    half = let z = odd in omega arith

    same : (d : ℕ) → 0 < d → has (x - 1) d ≡ has x d
    same zero l = absurd (omega arith)
    same (suc d) l = sym (has_half (x - 1) d) ∙ ap (λ (y : ℕ). has y d) half ∙ has_half x d

-- an even one, by its half
less_even : (t x : ℕ) → 0 < x → x % 2 ≡ 0 → OneLess t (x / 2) → OneLess (suc t) x
less_even t x pos even r = record { gone = sym (has_half (x - 1) t) ∙ ap (λ (y : ℕ). has y t) half ∙ r.gone; same = same }
  where
    half : (x - 1) / 2 ≡ x / 2 - 1
    half = omega arith

    same : (d : ℕ) → suc t < d → has (x - 1) d ≡ has x d
    same zero l = absurd (omega arith)
    same (suc d) l = sym (has_half (x - 1) d) ∙ ap (λ (y : ℕ). has y d) half ∙ r.same d (omega arith) ∙ has_half x d

one_less : (t x : ℕ) → 0 < x → has x t ≡ true → ((c : ℕ) → c < t → has x c ≡ false) → OneLess t x
one_less zero x pos e b = less_odd x e
one_less (suc t) x pos e b =
    let even : x % 2 ≡ 0 = low_digit x ∙ ap (λ (b : Bool). cond b 1 0) (b 0 (omega arith)) in
    less_even t x pos even (one_less t (x / 2) (omega arith) (has_half x t ∙ e) (λ c l. has_half x c ∙ b (suc c) (omega arith)))

-- those in both
pub has_and : (x y c : ℕ) → has (bit_and x y) c ≡ (has x c && has y c)
unfolding has
has_and x y c =
    ap (λ (d : ℕ). eqb d 1) (op_digit bit_and min and_step and_shr min_small x y c)
    ∙ by_digits (λ a b. eqb (min a b) 1 ≡ (eqb a 1 && eqb b 1)) refl refl refl refl (digit x c) (digit y c) (digit_lt x c) (digit_lt y c)

-- what a set has in common with one less is all but its least
pub drop_lowest : (n x t : ℕ) → x < 2 ^ n → 0 < x → Lowest n x t → bit_and x (x - 1) ≡ without x t
drop_lowest n x t h pos W =
    same_members n (bit_and x (x - 1)) (without x t) (let z = and_le_l x (x - 1) in omega arith) (without_lt n x t h)
    (λ c l. has_and x (x - 1) c ∙ each c ∙ sym (has_without x t c))
  where
    less : OneLess t x
    less = one_less t x pos W.member W.before

    twice : (a b e : Bool) → b ≡ a → e ≡ false → (a && b) ≡ (a && not e)
    twice true b e p q = rw (p, q) refl
    twice false b e p q = refl

    each : (c : ℕ) → (has x c && has (x - 1) c) ≡ (has x c && not (eqb t c))
    each c =
        by_lt c t
        (λ l. rw (W.before c l) refl)
        (λ l. by_lt t c
        (λ g. twice (has x c) (has (x - 1) c) (eqb t c) (less.same c g) (ne_eqb t c (λ q. let z : ◌≡◌ {A = ℕ} t c = q in omega arith)))
        (λ g. let q : t ≡ c = omega arith in rw (← q, less.gone, eqb_self t) refl))

-- SHIFTS

-- a word with the one digit c: the shift loses nothing
pub one_shifted : (c : ℕ) → c < 64 → 1 * 2 ^ c % 2 ^ 64 ≡ 2 ^ c
one_shifted c h = ap (λ (x : ℕ). x % 2 ^ 64) (one-mul (2 ^ c)) ∙ mod-eq_of_lt (pow-lt h)

-- n digits, all set
pub set_of_all : (n : ℕ) → set_of n (λ c. true) ≡ 2 ^ n - 1
unfolding set_of
set_of_all zero = refl
set_of_all (suc n) = let z = set_of_all n in let p = pow-suc 2 n in let q = pow_pos n in omega arith

-- the word that a shift and one less make
pub set_of_shifted : (n : ℕ) → n < 64 → 1 * 2 ^ n % 2 ^ 64 - 1 ≡ set_of n (λ c. true)
set_of_shifted n h = ap (λ (x : ℕ). x - 1) (one_shifted n h) ∙ sym (set_of_all n)

-- the whole word
pub set_of_word : (n : ℕ) → n ≡ 64 → 18446744073709551615 ≡ set_of n (λ c. true)
set_of_word n e = sym (set_of_all 64) ∙ ap (λ (k : ℕ). set_of k (λ c. true)) (sym e)

pub shifted_pos : (n : ℕ) → n < 64 → 0 < 1 * 2 ^ n % 2 ^ 64
shifted_pos n h = rw (one_shifted n h) (pow_pos n)
