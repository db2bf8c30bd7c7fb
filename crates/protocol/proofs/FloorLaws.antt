use mathlib.Core.Path.{refl, ◌≡◌}
use mathlib.Core.Bool.{Bool, false, true}
use mathlib.Core.List.{◌++◌, List, [], ◌∷◌}
use Prim.Native.Nat.{ℕ}
use native.Mathlib.Omega.{arith}
use borrow.Author.Tests.{eqb-true}
use Rattle.protocol.specs.Floor.{Place, Record, at, entered, is_at, leaving, local_to, moving, outside, put, station_of, travelling}
use Rattle.protocol.proofs.Tests.{clash, on_cond}

-- Laws of places and lines.
-- a line after a record was put on some lines
pub on_put {κ} : (P : List Record → Type κ) (on : ℕ → ℕ → Bool) (x : Record) (lines : ℕ → ℕ → List Record) (i j : ℕ)
    → (on i j ≡ true → P (lines i j ++ (x ∷ []))) → (on i j ≡ false → P (lines i j)) → P (put on x lines i j)
on_put P on x lines i j f g = on_cond P (on i j) f g

-- a cart that has not entered is outside
pub outside_is : (p : Place) → entered p ≡ false → p ≡ outside
outside_is outside e = refl
outside_is (at s) e = clash true refl e
outside_is (leaving s u) e = clash true refl e
outside_is (travelling s u) e = clash true refl e

-- a cart that has entered and is not moving is at its station
pub at_home : (p : Place) → entered p ≡ true → moving p ≡ false → p ≡ at (station_of p)
at_home outside e f = clash false e refl
at_home (at s) e f = refl
at_home (leaving s u) e f = clash true refl f
at_home (travelling s u) e f = clash true refl f

-- a cart that is at a station
pub at_is : (p : Place) (t : ℕ) → is_at p t ≡ true → p ≡ at t
at_is outside t e = clash false e refl
at_is (at s) t e = rw (eqb-true s t e)
at_is (leaving s u) t e = clash false e refl
at_is (travelling s u) t e = clash false e refl

-- a cart is local to one station only
pub local_one : (p : Place) (t u : ℕ) → local_to p t ≡ true → local_to p u ≡ true → t ≡ u
local_one outside t u e f = clash false f refl
local_one (at s) t u e f = let a = eqb-true s t e in let b = eqb-true s u f in omega arith
local_one (leaving s v) t u e f = let a = eqb-true s t e in let b = eqb-true s u f in omega arith
local_one (travelling s v) t u e f = clash false f refl
