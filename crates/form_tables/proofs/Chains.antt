-- A CHAIN a && b: the second is asked where the first is yes.
use mathlib.Core.Path.{◌≡◌, refl, ◌∙◌}
use mathlib.Core.Bool.{Bool, false}
use Prim.Native.Nat.{ℕ}
use lib.Dec.{eqb, ltb, leb}
use Rattle.protocol.specs.Claims.{Claim, True, test, both, eq, le, lt}
use Rattle.protocol.proofs.Answers.{no, same_answer}

-- a comparison answers its claim
pub eq_is : (a b : ℕ) → eqb a b ≡ test (eq a b)
unfolding test
eq_is a b = refl

pub le_is : (a b : ℕ) → leb a b ≡ test (le a b)
unfolding test
le_is a b = refl

pub lt_is : (a b : ℕ) → ltb a b ≡ test (lt a b)
unfolding test
lt_is a b = refl

-- the first is so, and the answer is the second's; it is not, and neither are both
module _ (P Q : Claim) (v : Bool) where
  pub both_yes : True P → v ≡ test Q → v ≡ test (both P Q)
  both_yes h e = e ∙ same_answer Q (both P Q) (λ q. (h, q)) (λ z. z.1)

  pub both_no : (True P → ⊥) → v ≡ false → v ≡ test (both P Q)
  both_no n e = e ∙ no (both P Q) (λ z. n z.0)
