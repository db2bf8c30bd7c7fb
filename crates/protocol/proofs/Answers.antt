-- The answers of a test that ends at the first failure: yes where its claim is true, no where it is not.
use mathlib.Core.Path.{◌≡◌, sym, ◌∙◌}
use mathlib.Core.Bool.{Bool, true, false}
use Prim.Native.Nat.{ℕ, ◌+◌, ◌≤◌, ◌<◌}
use native.Mathlib.Omega.{arith}
use Rattle.protocol.specs.Claims.{Claim, True, test, all}
use Rattle.protocol.proofs.ClaimLaws.{reflect}
use Rattle.protocol.proofs.Tests.{by_test, by_eq, clash, same_test}

-- the claim is true
pub yes : (p : Claim) → True p → true ≡ test p
yes p h = sym ((reflect p).1 h)

-- the claim is not
pub no : (p : Claim) → (True p → ⊥) → false ≡ test p
no p h = by_test (test p) (λ e. absurd (h ((reflect p).0 e))) (λ e. sym e)

-- what the answer of another test says
pub passed : (p : Claim) (r : Bool) → r ≡ test p → r ≡ true → True p
passed p r e q = (reflect p).0 (sym e ∙ q)

pub refused : (p : Claim) (r : Bool) → r ≡ test p → r ≡ false → True p → ⊥
refused p r e q h = clash r (e ∙ (reflect p).1 h) q

-- A LOOP over the numbers below n

-- one more has passed
pub one_more : (f : ℕ → Claim) (i : ℕ) → True (all i f) → True (f i) → True (all (i + 1) f)
one_more f i h x k l = by_eq k i (λ q. rw q x) (λ q. h k (omega arith))

-- all have
pub all_yes : (n : ℕ) (f : ℕ → Claim) (i : ℕ) → n ≤ i → True (all i f) → true ≡ test (all n f)
all_yes n f i l h = yes (all n f) (λ k m. h k (omega arith))

-- one has not
pub all_no : (n : ℕ) (f : ℕ → Claim) (i : ℕ) → i < n → (True (f i) → ⊥) → false ≡ test (all n f)
all_no n f i l h = no (all n f) (λ a. h (a i l))

-- two claims of which each implies the other have one answer
pub same_answer : (p q : Claim) → (True p → True q) → (True q → True p) → test p ≡ test q
same_answer p q f g = same_test (test p) (test q) (λ e. (reflect q).1 (f ((reflect p).0 e))) (λ e. (reflect p).1 (g ((reflect q).0 e)))
