-- Claims that are tests and facts at once, so that each clause of the form rule is written once.
use Rattle.std.specs.Prelude.{◌≡◌, Bool, true, ◌&&◌, ◌||◌, not, List, [], ◌∷◌, ℕ, suc, ◌<◌, ◌≤◌, eqb, leb}
use Rattle.protocol.specs.Folds.{every}
use Rattle.protocol.specs.Floor.{Record}

-- a test; at most; equal; and; if .. then; for all below a number; for all records of a line
pub data Claim : Type 0 where
  is : Bool → Claim
  le : ℕ → ℕ → Claim
  eq : ℕ → ℕ → Claim
  both : Claim → Claim → Claim
  when : Claim → Claim → Claim
  all : ℕ → (ℕ → Claim) → Claim
  on_line : List Record → (Record → Claim) → Claim

-- less than
abbrev pub lt : ℕ → ℕ → Claim
lt a b = le (suc a) b

-- does every record of a line pass
abbrev pub every_record : List Record → (Record → Bool) → Bool
every_record [] f = true
every_record (r ∷ l) f = f r && every_record l f

-- the claim as a yes-or-no test
unfoldable pub test : Claim → Bool
test (is b) = b
test (le a b) = leb a b
test (eq a b) = eqb a b
test (both p q) = test p && test q
test (when p q) = not (test p) || test q
test (all n f) = every n (λ k. test (f k))
test (on_line l f) = every_record l (λ r. test (f r))

-- what holds of every record of a line
abbrev pub All : (Record → Type 0) → List Record → Type 0
All P [] = Unit {0}
All P (r ∷ l) = P r × All P l

-- the claim as a fact
abbrev pub True : Claim → Type 0
True (is b) = b ≡ true
True (le a b) = a ≤ b
True (eq a b) = a ≡ b
True (both p q) = True p × True q
True (when p q) = True p → True q
True (all n f) = (k : ℕ) → k < n → True (f k)
True (on_line l f) = All (λ r. True (f r)) l
