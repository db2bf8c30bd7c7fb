-- `totals::common_divisor` meets its contract: each turn keeps the greatest common divisor, and the second number falls.
use mathlib.Core.Path.{◌≡◌}
use Rattle.totals.specs.Totals.{gcd}
use Rattle.totals.proofs.common_divisor.Given as goal

abbrev pub invariant-loop-y : goal.invariant-loop-y
invariant-loop-y l = gcd l.x l.y ≡ gcd l.a l.b

abbrev pub decreases-loop-y : goal.decreases-loop-y
decreases-loop-y l = l.y
