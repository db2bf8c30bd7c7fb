-- THE STATUS OF A CALL, down its tests, and what a call comes to by its status.
use mathlib.Core.Path.{◌≡◌, refl, sym, ap, ◌∙◌}
use mathlib.Core.Bool.{Bool, true, false, cond}
use mathlib.Core.List.{List}
use Prim.Native.Nat.{ℕ, ◌≤◌, ◌<◌}
use native.Mathlib.Omega.{arith}
use lib.Dec.{eqb, ltb}
use lib.ListN.{length}
use borrow.Author.Tests.{eqb-true, lt-ltb, le-ltb}
use Rattle.protocol.proofs.Tests.{by_lt, by_test}
use Rattle.protocol.specs.Floor.{Product, whole_floor, kit}
use Rattle.products.specs.declared.Bounds.{Bounds}
use Rattle.products.specs.Numbers.{Fits, NumbersOf}
use Rattle.mekhturia.specs.Status.{product_numbered, status_of, ByStatus}

-- the ways of the code that asks for it
module _ (product : ℕ) (out : List ℕ) (few : Bool) (asked : few ≡ ltb (length out) 8) where
  pub status_few : few ≡ true → 1 ≡ status_of product out
  status_few t = rw (sym asked ∙ t) refl

  module _ (f : few ≡ false) where
    pub status_none : 1 < product → 2 ≡ status_of product out
    status_none l = rw (sym asked ∙ f, lt-ltb 1 product l) refl

    pub status_answered : product ≤ 1 → 0 ≡ status_of product out
    status_answered l = rw (sym asked ∙ f, le-ltb 1 product l) refl

-- what a status says: with another than 0 nothing was touched; with 0 there are words enough, and the call was answered
module _ (product : ℕ) (out : List ℕ) (r : ℕ) (is : r ≡ status_of product out) where
  pub untouched_by_status : (r ≡ 0 → ⊥) → (answered untouched : Type 0) → untouched → ByStatus r (status_of product out) answered untouched
  untouched_by_status other answered untouched u = (is, λ z. absurd (other z), λ _. u)

  module _ (z : r ≡ 0) where
    pub words_enough : 8 ≤ length out
    words_enough =
        by_lt (length out) 8
        (λ l. absurd (let one : ◌≡◌ {A = ℕ} 0 1 = sym z ∙ is ∙ ap (λ (b : Bool). cond b 1 (cond (ltb 1 product) 2 0)) (lt-ltb (length out) 8 l) in omega arith))
        (λ l. l)

    pub answered_by_status : (answered untouched : Type 0) → answered → ByStatus 0 (status_of product out) answered untouched
    answered_by_status answered untouched a = (sym z ∙ is, λ _. a, λ other. absurd (other refl))

-- the limits by the product's number
module _ (product : ℕ) (b : Bounds) where
  pub floor_by_number : product ≡ 0 → Fits b × NumbersOf whole_floor b → Fits b × NumbersOf (product_numbered product) b × (0 < b.held)
  unfolding product_numbered
  floor_by_number z (fits, numbers) = let h = numbers.held_is in (fits, rw z numbers, omega arith)

  pub kit_by_number : (product ≡ 0 → ⊥) → Fits b × NumbersOf kit b → Fits b × NumbersOf (product_numbered product) b × (0 < b.held)
  unfolding product_numbered
  kit_by_number n (fits, numbers) =
      let h = numbers.held_is in
      let other : eqb product 0 ≡ false = by_test (eqb product 0) (λ t. absurd (n (eqb-true product 0 t))) (λ f. f) in
      (fits, rw other numbers, omega arith)
