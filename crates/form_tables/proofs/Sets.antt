-- Sets of the first n, as words; and sets that are collected from station to station.
use mathlib.Core.Path.{◌≡◌, sym, ap, ◌∙◌}
use mathlib.Core.Bool.{true, ◌||◌}
use Prim.Native.Nat.{ℕ, ◌+◌, ◌-◌, ◌^◌, ◌≤◌, ◌<◌}
use native.Mathlib.Omega.{arith}
use lib.Pow.{pow_pos, pow_mono}
use borrow.Author.Tests.{lt-ltb, le-ltb}
use Rattle.protocol.specs.CartSets.{has, union, set_of}
use Rattle.protocol.proofs.Tests.{by_lt, by_eq, clash, or_cases, or_left, or_right}
use Rattle.protocol.proofs.SetLaws.{has_zero, has_union}
use Rattle.sets.proofs.MaskLaws.{set_of_all}
use Rattle.form_tables.specs.Parts.{most_of, Collects}

-- THE GREATEST SET of the first n
pub most_few : (n r : ℕ) → n < 64 → r ≡ set_of n (λ c. true) → r ≡ most_of n
most_few n r l e = rw (lt-ltb n 64 l) e

pub most_all : (n r : ℕ) → 64 ≤ n → r ≡ set_of 64 (λ c. true) → r ≡ most_of n
most_all n r l e = rw (le-ltb n 64 l) e

-- a word that is at most that is a set of the first n, and a word that is more is not
module _ (n x : ℕ) (word : x < 18446744073709551616) where
  pub within_most : (r : ℕ) → r ≡ most_of n → x ≤ r → x < 2 ^ n
  within_most r e h =
      by_lt n 64
      (λ l. let z : r ≡ 2 ^ n - 1 = e ∙ rw (lt-ltb n 64 l) (set_of_all n) in let p = pow_pos n in omega arith)
      (λ l. let p : 2 ^ 64 ≤ 2 ^ n = pow_mono l in let q : 18446744073709551616 ≤ 2 ^ n = p in omega arith)

  pub most_within : (r : ℕ) → r ≡ most_of n → x < 2 ^ n → x ≤ r
  most_within r e h =
      by_lt n 64
      (λ l. let z : r ≡ 2 ^ n - 1 = e ∙ rw (lt-ltb n 64 l) (set_of_all n) in omega arith)
      (λ l. let z : r ≡ 18446744073709551615 = e ∙ rw (le-ltb n 64 l) (set_of_all 64) in omega arith)

-- COLLECTING: nothing, and one more
pub collect_none : (f : ℕ → ℕ) → Collects f 0 0
collect_none f = record { had = λ u c l e. absurd (omega arith); of = λ c e. clash (has 0 c) e (has_zero c) }

pub collect_more : (f : ℕ → ℕ) (t x y z : ℕ) → Collects f t x → y ≡ f t → z ≡ union x y → Collects f (t + 1) z
collect_more f t x y z X e g =
    record {
      had = λ u c l q. joined c ∙ by_eq u t
          (λ w. or_right (has x c) (has y c) (ap (λ (v : ℕ). has v c) e ∙ (rw w at q)))
          (λ w. or_left (has x c) (has y c) (X.had u c (omega arith) q));
      of = λ c q. or_cases (has x c) (has y c) (sym (joined c) ∙ q)
          (λ w. let v = X.of c w in (v.0, omega (arith, v.1), v.2))
          (λ w. (t, omega arith, ap (λ (v : ℕ). has v c) (sym e) ∙ w));
    }
  where
    joined : (c : ℕ) → has z c ≡ (has x c || has y c)
    joined c = ap (λ (v : ℕ). has v c) g ∙ has_union x y c
