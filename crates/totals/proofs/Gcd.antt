-- The greatest common divisor: it divides both numbers, and whatever divides both divides it.
use mathlib.Core.Path.{◌≡◌, refl, subst, sym, ◌∙◌}
use Prim.Native.Nat.{ℕ, zero, suc, ◌*◌, ◌/◌, ◌%◌, ◌<◌, ◌∣◌}
use native.Mathlib.Nat.{dvd-mod_iff, dvd_of_mul-dvd-mul_left, dvd_refl, dvd-zero, eq-one_of_dvd-one, mod-lt, mul-div_cancel', mul-dvd-mul_left, mul-one, pos_of_dvd_of_pos}
use native.Mathlib.Omega.{arith}
use lib.Dec.{eqb}
use borrow.Author.Tests.{eqb-false, eqb-true, ne_eqb}
use borrow.Table.Steps.{cases}
use Rattle.totals.specs.Totals.{gcd, gcd_within}

-- one turn: the last, and one before it
turn_end : (k a b : ℕ) → b ≡ 0 → gcd_within (suc k) a b ≡ a
unfolding gcd_within
turn_end k a b e = rw (e, gcd_within)

turn_more : (k a b : ℕ) → (b ≡ 0 → ⊥) → gcd_within (suc k) a b ≡ gcd_within k b (a % b)
unfolding gcd_within
turn_more k a b n = rw (ne_eqb b 0 n, gcd_within)

rest_falls : (a b : ℕ) → (b ≡ 0 → ⊥) → a % b < b
rest_falls a b n = mod-lt a {m = b} (omega arith)

divides_within : (k a b : ℕ) → b < k → (gcd_within k a b ∣ a) × (gcd_within k a b ∣ b)
divides_within zero a b l = absurd (omega arith)
divides_within (suc k) a b l =
    cases (eqb b 0)
    (λ e. let z = eqb-true b 0 e in rw (turn_end k a b z) (dvd_refl a, rw z (dvd-zero a)))
    (λ e. let n = eqb-false b 0 e in
    let falls = rest_falls a b n in
    let h = divides_within k b (a % b) (omega arith) in
    rw (turn_more k a b n) ((dvd-mod_iff (gcd_within k b (a % b)) {m = a} {n = b} h.0).0 h.1, h.0))

greatest_within : (k a b d : ℕ) → b < k → d ∣ a → d ∣ b → d ∣ gcd_within k a b
greatest_within zero a b d l p q = absurd (omega arith)
greatest_within (suc k) a b d l p q =
    cases (eqb b 0)
    (λ e. rw (turn_end k a b (eqb-true b 0 e)) p)
    (λ e. let n = eqb-false b 0 e in
    let falls = rest_falls a b n in
    rw (turn_more k a b n) (greatest_within k b (a % b) d (omega arith) q ((dvd-mod_iff d {m = a} {n = b} q).1 p)))

-- more turns change nothing
same_turns : (k j a b : ℕ) → b < k → b < j → gcd_within k a b ≡ gcd_within j a b
same_turns zero j a b l h = absurd (omega arith)
same_turns (suc k) zero a b l h = absurd (omega arith)
same_turns (suc k) (suc j) a b l h =
    cases (eqb b 0)
    (λ e. let z = eqb-true b 0 e in turn_end k a b z ∙ sym (turn_end j a b z))
    (λ e. let n = eqb-false b 0 e in
    let falls = rest_falls a b n in
    turn_more k a b n ∙ same_turns k j b (a % b) (omega arith) (omega arith) ∙ sym (turn_more j a b n))

pub gcd_divides : (a b : ℕ) → (gcd a b ∣ a) × (gcd a b ∣ b)
unfolding gcd
gcd_divides a b = divides_within (suc b) a b (omega arith)

pub gcd_greatest : (a b d : ℕ) → d ∣ a → d ∣ b → d ∣ gcd a b
unfolding gcd
gcd_greatest a b d p q = greatest_within (suc b) a b d (omega arith) p q

-- a turn of the loop that finds it, at its end and before
pub gcd_end : (a : ℕ) → gcd a 0 ≡ a
unfolding gcd
gcd_end a = turn_end 0 a 0 refl

pub gcd_turn : (a b : ℕ) → (b ≡ 0 → ⊥) → gcd a b ≡ gcd b (a % b)
unfolding gcd
gcd_turn a b n = let falls = rest_falls a b n in turn_more b a b n ∙ same_turns b (suc (a % b)) b (a % b) (omega arith) (omega arith)

pub gcd_positive : (a b : ℕ) → 0 < b → 0 < gcd a b
gcd_positive a b l = pos_of_dvd_of_pos (gcd_divides a b).1 l

-- the quotients by it have no common divisor above 1
pub quotients_coprime : (a b d : ℕ) → 0 < b → d ∣ a / gcd a b → d ∣ b / gcd a b → d ≡ 1
quotients_coprime a b d l p q =
    let g = gcd a b in
    let h = gcd_divides a b in
    let whole : (n : ℕ) → g ∣ n → d ∣ n / g → g * d ∣ n = λ n r s. subst (λ (x : ℕ). g * d ∣ x) (mul-div_cancel' g r) (mul-dvd-mul_left d g s) in
    let all : g * d ∣ g * 1 = subst (λ (x : ℕ). g * d ∣ x) (sym (mul-one g)) (gcd_greatest a b (g * d) (whole a h.0 p) (whole b h.1 q)) in
    eq-one_of_dvd-one (dvd_of_mul-dvd-mul_left d (gcd_positive a b l) all)
