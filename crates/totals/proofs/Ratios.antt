-- THE RATIO.
use mathlib.Core.Path.{◌≡◌, ap, sym, ◌∙◌}
use Prim.Native.Nat.{ℕ, ◌*◌, ◌/◌, ◌<◌, ◌∣◌}
use native.Mathlib.Nat.{mul_assoc, mul_comm, mul-div_cancel', mul-zero}
use native.Mathlib.Omega.{arith}
use lib.Dec.{eqb}
use borrow.Author.Tests.{eqb-false, eqb-true, ne_eqb}
use borrow.Table.Steps.{cases}
use Rattle.std.specs.Prelude.{None}
use Rattle.totals.specs.declared.Tally.{Tally}
use Rattle.totals.specs.declared.Fraction.{Fraction}
use Rattle.totals.specs.Totals.{gcd, over, ratio_of, reduced}
use Rattle.totals.proofs.Gcd.{gcd_divides, quotients_coprime}

pub nothing_received : (A : Tally) → A.received ≡ 0 → ratio_of A ≡ None
unfolding ratio_of
nothing_received A e = rw e

pub some_received : (A : Tally) → (A.received ≡ 0 → ⊥) → ratio_of A ≡ over (reduced A).passed (reduced A).received
unfolding ratio_of
some_received A n = rw (ne_eqb A.received 0 n)

pub none_received : (A : Tally) → ratio_of A ≡ None → A.received ≡ 0
none_received A e =
    cases (eqb A.received 0)
    (λ z. eqb-true A.received 0 z)
    (λ z. absurd (let y : None ≡ over _ _ = sym e ∙ some_received A (eqb-false A.received 0 z) in let x : ◌≡◌ {A = ℕ} 0 1 = cc in omega arith))

-- the divisor that the code has found
pub ratio_found : (A : Tally) (g : ℕ) → (A.received ≡ 0 → ⊥) → g ≡ gcd A.passed A.received → over (A.passed / g) (A.received / g) ≡ ratio_of A
ratio_found A g n e = ap (λ (x : ℕ). over (A.passed / x) (A.received / x)) e ∙ sym (some_received A n)

abbrev reduced_fraction : Tally → Fraction
reduced_fraction A = record { passed = (reduced A).passed; received = (reduced A).received }

-- which fraction it is, where there is one
pub record FractionOf (A : Tally) (p r : ℕ) : Type 0 where
  pub some : A.received ≡ 0 → ⊥
  pub passed : p ≡ (reduced A).passed
  pub received : r ≡ (reduced A).received

pub fraction_of : (A : Tally) (p r : ℕ) → ratio_of A ≡ over p r → FractionOf A p r
fraction_of A p r e =
    cases (eqb A.received 0)
    (λ z. absurd (let y : None ≡ over p r = sym (nothing_received A (eqb-true A.received 0 z)) ∙ e in let x : ◌≡◌ {A = ℕ} 0 1 = cc in omega arith))
    (λ z. let n = eqb-false A.received 0 z in
    let y : over p r ≡ over (reduced A).passed (reduced A).received = sym e ∙ some_received A n in
    let its : ◌≡◌ {A = Fraction} (record { passed = p; received = r }) (reduced_fraction A) = cc in
    record { some = n; passed = ap (λ (f : Fraction). f.passed) its; received = ap (λ (f : Fraction). f.received) its })

-- both parts, multiplied by the divisor, are the totals again
pub whole_passed : (A : Tally) (p r : ℕ) → FractionOf A p r → gcd A.passed A.received * p ≡ A.passed
whole_passed A p r f = ap (λ (x : ℕ). gcd A.passed A.received * x) f.passed ∙ mul-div_cancel' (gcd A.passed A.received) (gcd_divides A.passed A.received).0

pub whole_received : (A : Tally) (p r : ℕ) → FractionOf A p r → gcd A.passed A.received * r ≡ A.received
whole_received A p r f = ap (λ (x : ℕ). gcd A.passed A.received * x) f.received ∙ mul-div_cancel' (gcd A.passed A.received) (gcd_divides A.passed A.received).1

-- so they stand to each other as the totals do
pub same_ratio : (A : Tally) (p r : ℕ) → FractionOf A p r → p * A.received ≡ A.passed * r
same_ratio A p r f =
    let g = gcd A.passed A.received in
    ap (λ (x : ℕ). p * x) (sym (whole_received A p r f)) ∙ sym (mul_assoc p g r) ∙ ap (λ (x : ℕ). x * r) (mul_comm p g) ∙ ap (λ (x : ℕ). x * r) (whole_passed A p r f)

pub over_some : (A : Tally) (p r : ℕ) → FractionOf A p r → 0 < r
over_some A p r f =
    cases (eqb r 0)
    (λ e. absurd (f.some (sym (whole_received A p r f) ∙ ap (λ (x : ℕ). gcd A.passed A.received * x) (eqb-true r 0 e) ∙ mul-zero (gcd A.passed A.received))))
    (λ e. let n = eqb-false r 0 e in omega arith)

pub coprime : (A : Tally) (p r d : ℕ) → FractionOf A p r → d ∣ p → d ∣ r → d ≡ 1
coprime A p r d f x y =
    let n = f.some in
    quotients_coprime A.passed A.received d (omega arith) (rw (← f.passed) x) (rw (← f.received) y)
