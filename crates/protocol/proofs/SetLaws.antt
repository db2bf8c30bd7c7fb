-- The laws of sets as numbers: who is in a union, a difference, a set with or without one; sets below 2^n; equal sets.
use mathlib.Core.Path.{ap, ap₂, refl, subst, sym, ◌∙◌, ◌≡◌}
use mathlib.Core.Bool.{◌&&◌, Bool, cond, false, not, true, ◌||◌}
use Prim.Native.Nat.{◌%◌, ◌*◌, ◌+◌, ◌/◌, ◌<◌, ◌≤◌, ◌^◌, max, min, suc, zero, ℕ}
use native.Mathlib.Nat.{div-add-mod', div-eq_of_lt, div-one, le_of_suc-le-suc, lt_of_le_of_lt, mod-lt, mul-div_cancel, mul-mod_left, not-suc-le-zero, pow-suc, zero-div, zero-lt-suc}
use native.Mathlib.Omega.{arith}
use lib.Dec.{eqb, eqb-suc-suc, eqb-suc-zero, eqb-zero-suc}
use lib.Arith.{digits_mod, lt-one}
use lib.Pow.{pow-lt, pow_mono, pow_pos, shr-shr}
use lib.Bits.{and_le_l, and_le_r, and_shr, and_step, bit_and, bit_or, bit_xor, differ, or_add_and, or_lt, or_shifted_r, or_shr, or_step, xor_lt, xor_shr, xor_step}
use borrow.Author.Tests.{eq-eqb, eqb-false, eqb-true, ne_eqb, not-false, not-true}
use Rattle.protocol.specs.Folds.{every}
use Rattle.protocol.specs.CartSets.{digit, has, minus, set_of, union, with, without}
use Rattle.protocol.proofs.Tests.{and-true, by_eq, by_lt, by_test, clash, eqb_self, every_at, every_fails, or_none, or_right}

-- DIGITS

pub digit_lt : (x c : ℕ) → digit x c < 2
digit_lt x c = mod-lt (x / 2 ^ c) (zero-lt-suc 1)

-- the digits of an operation that works digit by digit
module _ (op : ℕ → ℕ → ℕ) (f : ℕ → ℕ → ℕ)
    (step : (a b : ℕ) → op a b ≡ op (a / 2) (b / 2) * 2 + f (a % 2) (b % 2))
    (shr : (a b k : ℕ) → op a b / 2 ^ k ≡ op (a / 2 ^ k) (b / 2 ^ k))
    (small : (x y : ℕ) → x < 2 → y < 2 → f x y < 2) where
  pub op_digit : (a b c : ℕ) → digit (op a b) c ≡ f (digit a c) (digit b c)
  op_digit a b c =
      ap (λ (x : ℕ). x % 2) (shr a b c ∙ step (a / 2 ^ c) (b / 2 ^ c))
      ∙ digits_mod (op (a / 2 ^ c / 2) (b / 2 ^ c / 2)) (small (digit a c) (digit b c) (digit_lt a c) (digit_lt b c))

-- a statement on two digits is one on four cases
pub by_digits : (P : ℕ → ℕ → Type 0) → P 0 0 → P 0 1 → P 1 0 → P 1 1 → (x y : ℕ) → x < 2 → y < 2 → P x y
by_digits P a b c d zero zero hx hy = a
by_digits P a b c d zero (suc zero) hx hy = b
by_digits P a b c d (suc zero) zero hx hy = c
by_digits P a b c d (suc zero) (suc zero) hx hy = d
by_digits P a b c d zero (suc (suc y)) hx hy = absurd (not-suc-le-zero (le_of_suc-le-suc (le_of_suc-le-suc hy)))
by_digits P a b c d (suc zero) (suc (suc y)) hx hy = absurd (not-suc-le-zero (le_of_suc-le-suc (le_of_suc-le-suc hy)))
by_digits P a b c d (suc (suc x)) y hx hy = absurd (not-suc-le-zero (le_of_suc-le-suc (le_of_suc-le-suc hx)))

pub min_small : (x y : ℕ) → x < 2 → y < 2 → min x y < 2
min_small x y hx hy = omega arith

pub max_small : (x y : ℕ) → x < 2 → y < 2 → max x y < 2
max_small x y hx hy = omega arith

pub differ_small : (x y : ℕ) → x < 2 → y < 2 → differ x y < 2
differ_small = by_digits (λ x y. differ x y < 2) (omega arith) (omega arith) (omega arith) (omega arith)

pub half_digit : (a c : ℕ) → digit (a / 2) c ≡ digit a (suc c)
half_digit a c = ap (λ (x : ℕ). x % 2) (shr-shr a 1 c ∙ ap (λ (k : ℕ). a / 2 ^ k) (one_add c))
  where
    one_add : (c : ℕ) → 1 + c ≡ suc c
    one_add c = omega arith

pub power_digit : (c d : ℕ) → eqb (digit (2 ^ c) d) 1 ≡ eqb c d
power_digit zero zero = refl
power_digit zero (suc d) =
    ap (λ (x : ℕ). eqb x 1) (sym (half_digit 1 d) ∙ ap (λ (x : ℕ). x % 2) (zero-div (2 ^ d))) ∙ sym (eqb-zero-suc d)
power_digit (suc c) zero =
    ap (λ (x : ℕ). eqb x 1) (ap (λ (x : ℕ). x % 2) (div-one (2 ^ suc c)) ∙ ap (λ (x : ℕ). x % 2) (pow-suc 2 c) ∙ mul-mod_left (2 ^ c) 2)
    ∙ sym (eqb-suc-zero c)
power_digit (suc c) (suc d) =
    ap (λ (x : ℕ). eqb x 1) (sym (half_digit (2 ^ suc c) d) ∙ ap (λ (x : ℕ). digit x d) (ap (λ (x : ℕ). x / 2) (pow-suc 2 c) ∙ mul-div_cancel (2 ^ c) (zero-lt-suc 1)))
    ∙ power_digit c d ∙ sym (eqb-suc-suc c d)

-- WHO IS IN A SET

pub has_zero : (c : ℕ) → has 0 c ≡ false
unfolding has
has_zero c = ap (λ (x : ℕ). eqb (x % 2) 1) (zero-div (2 ^ c))

pub has_union : (x y c : ℕ) → has (union x y) c ≡ (has x c || has y c)
unfolding has union
has_union x y c =
    ap (λ (d : ℕ). eqb d 1) (op_digit bit_or max or_step or_shr max_small x y c)
    ∙ by_digits (λ a b. eqb (max a b) 1 ≡ (eqb a 1 || eqb b 1)) refl refl refl refl (digit x c) (digit y c) (digit_lt x c) (digit_lt y c)

pub has_minus : (x y c : ℕ) → has (minus x y) c ≡ (has x c && not (has y c))
unfolding has minus
has_minus x y c =
    ap (λ (d : ℕ). eqb d 1)
    (op_digit bit_xor differ xor_step xor_shr differ_small x (bit_and x y) c
    ∙ ap (differ (digit x c)) (op_digit bit_and min and_step and_shr min_small x y c))
    ∙ by_digits (λ a b. eqb (differ a (min a b)) 1 ≡ (eqb a 1 && not (eqb b 1))) refl refl refl refl (digit x c) (digit y c) (digit_lt x c) (digit_lt y c)

pub has_power : (c d : ℕ) → has (2 ^ c) d ≡ eqb c d
unfolding has
has_power c d = power_digit c d

pub has_with : (x c d : ℕ) → has (with x c) d ≡ (has x d || eqb c d)
unfolding with
has_with x c d = has_union x (2 ^ c) d ∙ ap (λ (b : Bool). has x d || b) (has_power c d)

pub has_without : (x c d : ℕ) → has (without x c) d ≡ (has x d && not (eqb c d))
unfolding without
has_without x c d = has_minus x (2 ^ c) d ∙ ap (λ (b : Bool). has x d && not b) (has_power c d)

-- SETS BELOW 2^n

pub union_lt : (n x y : ℕ) → x < 2 ^ n → y < 2 ^ n → union x y < 2 ^ n
unfolding union
union_lt = or_lt

-- two sets are empty when those in either are nobody
pub either_empty : (x y : ℕ) → bit_or x y ≡ 0 → (x ≡ 0) × (y ≡ 0)
either_empty x y e =
    let sum = or_add_and x y in
    let a = and_le_l x y in
    let b = and_le_r x y in
    (omega (arith, e, sum, a, b), omega (arith, e, sum, a, b))

pub minus_lt : (n x y : ℕ) → x < 2 ^ n → minus x y < 2 ^ n
unfolding minus
minus_lt n x y h = xor_lt n x (bit_and x y) h (lt_of_le_of_lt (and_le_l x y) h)

pub with_lt : (n x c : ℕ) → x < 2 ^ n → c < n → with x c < 2 ^ n
unfolding with
with_lt n x c h l = union_lt n x (2 ^ c) h (pow-lt l)

pub without_lt : (n x c : ℕ) → x < 2 ^ n → without x c < 2 ^ n
unfolding without
without_lt n x c h = minus_lt n x (2 ^ c) h

pub zero_below : (n : ℕ) → 0 < 2 ^ n
zero_below n = pow_pos n

-- a member of a set below 2^n is below n
pub member_below : (n x c : ℕ) → x < 2 ^ n → has x c ≡ true → c < n
unfolding has
member_below n x c h e =
    by_lt c n (λ l. l)
    (λ l. let z : x < 2 ^ c = (let y = pow_mono l in omega arith) in
    let q : eqb (digit x c) 1 ≡ false = ap (λ (y : ℕ). eqb (y % 2) 1) (div-eq_of_lt z) in
    clash (eqb (digit x c) 1) e q)

-- so none from n on is
pub no_member : (n x c : ℕ) → x < 2 ^ n → n ≤ c → has x c ≡ false
no_member n x c h l = by_test (has x c) (λ e. absurd (let z = member_below n x c h e in omega arith)) (λ e. e)

-- SETS GIVEN BY A TEST

pub set_of_lt : (n : ℕ) (f : ℕ → Bool) → set_of n f < 2 ^ n
unfolding set_of
set_of_lt zero f = omega arith
set_of_lt (suc n) f =
    let z = set_of_lt n f in
    let p = pow-suc 2 n in
    by_test (f n) (λ e. rw e (omega arith)) (λ e. rw e (omega arith))

-- nobody from n on is in it
pub set_of_beyond : (n : ℕ) (f : ℕ → Bool) (c : ℕ) → n ≤ c → has (set_of n f) c ≡ false
set_of_beyond n f c l = no_member n (set_of n f) c (set_of_lt n f) l

-- the next one joins
pub set_of_suc : (n : ℕ) (f : ℕ → Bool) → set_of (suc n) f ≡ cond (f n) (with (set_of n f) n) (set_of n f)
unfolding set_of with union
set_of_suc n f =
    by_test (f n)
    (λ e. rw e (let z = or_shifted_r 1 n (set_of n f) (set_of_lt n f) in
    let one : 1 * 2 ^ n ≡ 2 ^ n = omega arith in
    let y : bit_or (set_of n f) (2 ^ n) ≡ 2 ^ n + set_of n f = rw one at z in
    sym (y ∙ (let w : 2 ^ n + set_of n f ≡ set_of n f + 2 ^ n = omega arith in w))))
    (λ e. rw e (omega arith))

pub has_set_of : (n : ℕ) (f : ℕ → Bool) (c : ℕ) → c < n → has (set_of n f) c ≡ f c
has_set_of zero f c h = absurd (omega arith)
has_set_of (suc n) f c h =
    rw (set_of_suc n f)
    (by_eq c n
    (λ q. rw q (by_test (f n)
    (λ e. rw e (has_with (set_of n f) n n ∙ or_right (has (set_of n f) n) (eqb n n) (eqb_self n)))
    (λ e. rw e (set_of_beyond n f n (omega arith)))))
    (λ q. by_test (f n)
    (λ e. rw e (has_with (set_of n f) n c ∙ rw (ne_eqb n c (λ z. q (sym z))) (or_none (has (set_of n f) c) ∙ has_set_of n f c (omega arith))))
    (λ e. rw e (has_set_of n f c (omega arith)))))

-- whoever is in the set passes
pub set_of_member : (n : ℕ) (f : ℕ → Bool) (c : ℕ) → has (set_of n f) c ≡ true → f c ≡ true
set_of_member n f c e = let l = member_below n (set_of n f) c (set_of_lt n f) e in sym (has_set_of n f c l) ∙ e

-- EQUAL SETS

pub same_digits : (n a b : ℕ) → a < 2 ^ n → b < 2 ^ n → ((c : ℕ) → c < n → digit a c ≡ digit b c) → a ≡ b
same_digits zero a b ha hb e = lt-one ha ∙ sym (lt-one hb)
same_digits (suc n) a b ha hb e =
    sym (div-add-mod' a 2)
    ∙ ap₂ (λ (x y : ℕ). x * 2 + y)
    (same_digits n (a / 2) (b / 2) (half a ha) (half b hb)
    (λ c h. half_digit a c ∙ e (suc c) (omega arith) ∙ sym (half_digit b c)))
    low
    ∙ div-add-mod' b 2
  where
    half : (a : ℕ) → a < 2 ^ suc n → a / 2 < 2 ^ n
    half a h = omega (arith, subst (λ (x : ℕ). a < x) (pow-suc 2 n) h)

    low : a % 2 ≡ b % 2
    low = ap (λ (x : ℕ). x % 2) (sym (div-one a)) ∙ e 0 (omega arith) ∙ ap (λ (x : ℕ). x % 2) (div-one b)

digit_of_test : (x y : ℕ) → x < 2 → y < 2 → eqb x 1 ≡ eqb y 1 → x ≡ y
digit_of_test = by_digits (λ x y. eqb x 1 ≡ eqb y 1 → x ≡ y) (λ e. refl) (λ e. cc) (λ e. cc) (λ e. refl)

-- two sets below 2^n are equal when they agree on every one below n
pub same_members : (n x y : ℕ) → x < 2 ^ n → y < 2 ^ n → ((c : ℕ) → c < n → has x c ≡ has y c) → x ≡ y
unfolding has
same_members n x y hx hy e =
    same_digits n x y hx hy (λ c h. digit_of_test (digit x c) (digit y c) (digit_lt x c) (digit_lt y c) (e c h))

-- a set is below its own power, so whatever their size two sets with the same members are one
below_own : (x : ℕ) → x < 2 ^ x
below_own zero = omega arith
below_own (suc x) = let z = below_own x in let p = pow-suc 2 x in omega arith

pub same_sets : (x y : ℕ) → ((c : ℕ) → has x c ≡ has y c) → x ≡ y
same_sets x y h =
    let left : 2 ^ x ≤ 2 ^ (x + y) = pow_mono (omega arith) in
    let right : 2 ^ y ≤ 2 ^ (x + y) = pow_mono (omega arith) in
    same_members (x + y) x y (let z = below_own x in omega arith) (let z = below_own y in omega arith) (λ c l. h c)

-- a set that is not empty has a member
pub some_member : (n x : ℕ) → x < 2 ^ n → 0 < x → (c : ℕ) × (c < n) × (has x c ≡ true)
some_member n x h pos =
    by_test (every n (λ c. not (has x c)))
    (λ e. let z : x ≡ 0 = same_members n x 0 h (zero_below n) (λ c l. not-true (has x c) (every_at n (λ c. not (has x c)) e c l) ∙ sym (has_zero c)) in absurd (omega arith))
    (λ e. let r = every_fails n (λ c. not (has x c)) e in (r.0, r.1, not-false (has x r.0) r.2))

-- every number is a set below some power
pub lt_two_pow : (n : ℕ) → n < 2 ^ n
lt_two_pow zero = omega arith
lt_two_pow (suc n) = let z = lt_two_pow n in let p = pow-suc 2 n in omega arith

-- so one that is not 0 has a member, of whatever size it is
pub somebody : (x : ℕ) → eqb x 0 ≡ false → (c : ℕ) × (has x c ≡ true)
somebody x e = let ne : x ≡ 0 → ⊥ = eqb-false x 0 e in let r = some_member x x (lt_two_pow x) (omega arith) in (r.0, r.2)

-- and one that has a member is not 0
pub has_some : (x c : ℕ) → has x c ≡ true → eqb x 0 ≡ false
has_some x c e = by_test (eqb x 0) (λ q. let z = eqb-true x 0 q in clash (has 0 c) (rw z at e) (has_zero c)) (λ q. q)

-- whoever is waited for without t was waited for before
pub still_waited : (x t : ℕ) → eqb (without x t) 0 ≡ false → eqb x 0 ≡ false
still_waited x t e =
    by_eq x 0
    (λ z. clash (eqb (without x t) 0) (eq-eqb (without x t) 0 (let less = without_lt 0 x t (omega arith) in omega arith)) e)
    (λ z. ne_eqb x 0 z)

-- a set without one that is not in it
pub without_absent : (x c : ℕ) → has x c ≡ false → without x c ≡ x
without_absent x c e =
    same_members x (without x c) x (without_lt x x c (lt_two_pow x)) (lt_two_pow x)
    (λ d l. has_without x c d ∙ by_eq c d (λ z. let e' : has x d ≡ false = rw z at e in rw e') (λ z. rw (ne_eqb c d z) (and-true (has x d))))
