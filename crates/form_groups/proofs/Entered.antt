-- WHICH CARTS OF A SET HAVE ENTERED, as the code finds out.
use mathlib.Core.Path.{◌≡◌, sym, ap, ◌∙◌}
use mathlib.Core.Bool.{Bool, true, false, not}
use Prim.Native.Nat.{ℕ, ◌^◌, ◌≤◌, ◌<◌}
use native.Mathlib.Omega.{arith}
use borrow.Author.Tests.{not-false}
use Rattle.protocol.specs.Floor.{entered}
use Rattle.protocol.specs.Floor as floor
use Rattle.protocol.specs.CartSets.{set_of}
use Rattle.protocol.specs.Claims.{Claim, test, is}
use Rattle.protocol.proofs.Tests.{clash}
use Rattle.protocol.proofs.SetLaws.{member_below, zero_below}
use Rattle.sets.proofs.MaskLaws.{set_of_all}
use Rattle.protocol.proofs.Answers.{same_answer}
use Rattle.form_tables.proofs.Walks.{over}

-- THE WALK over the set

-- what the code learned of a cart
pub stays_out : (r b : Bool) → r ≡ not b → r ≡ true → b ≡ true → ⊥
stays_out r b e taken h = clash r taken (e ∙ ap not h)

pub came_in : (r b : Bool) → r ≡ not b → r ≡ false → b ≡ true
came_in r b e left = not-false b (sym e ∙ left)

-- cart c of a table of places has entered
abbrev pub has_entered : (ℕ → floor.Place) → ℕ → Claim
has_entered place c = is (entered (place c))

-- of the first k, each cart of the set has
abbrev pub all_entered : (ℕ → floor.Place) → ℕ → ℕ → Claim
all_entered place k set = over k set (has_entered place)

-- a set of the first k carts has none beyond
pub entered_wider : (place : ℕ → floor.Place) (k set : ℕ) → k ≤ 64 → set < 2 ^ k → test (all_entered place 64 set) ≡ test (all_entered place k set)
entered_wider place k set few l =
    same_answer (all_entered place 64 set) (all_entered place k set) (λ h c b. h c (omega arith)) (λ h c b q. h c (member_below k set c l q) q)

-- ALL CARTS OF THE FLOOR

-- as many as the code counted
pub all_of : (most k n : ℕ) → most ≡ set_of k (λ c. true) → k ≡ n → most ≡ set_of n (λ c. true)
all_of most k n e q = e ∙ ap (λ (x : ℕ). set_of x (λ c. true)) q

-- a set is no greater than the set of all k, and greater
pub within_all : (k set most : ℕ) → most ≡ set_of k (λ c. true) → set ≤ most → set < 2 ^ k
within_all k set most e l = let a = set_of_all k in let b = zero_below k in omega arith

pub beyond_all : (k set most : ℕ) → most ≡ set_of k (λ c. true) → most < set → 2 ^ k ≤ set
beyond_all k set most e l = let a = set_of_all k in omega arith
