-- THE KIND OF A NUMBER, and the number of a kind.
use mathlib.Core.Path.{◌≡◌}
use Prim.Native.Nat.{ℕ}
use native.Mathlib.Omega.{arith}
use Rattle.std.specs.Prelude.{Some, None}
use Rattle.view.specs.Kinds.{number_said, kind_said}
use Rattle.view.specs.declared.Kind.{Kind}

pub said_is : (n : ℕ) (q : Kind) → kind_said n ≡ Some q → n ≡ number_said q
said_is n q h = grind arith

pub said_none : (n : ℕ) → kind_said n ≡ None → (n ≡ 1 → ⊥) × (n ≡ 2 → ⊥) × (n ≡ 3 → ⊥) × (n ≡ 4 → ⊥) × (n ≡ 5 → ⊥)
said_none n h = (λ e. grind arith, λ e. grind arith, λ e. grind arith, λ e. grind arith, λ e. grind arith)
