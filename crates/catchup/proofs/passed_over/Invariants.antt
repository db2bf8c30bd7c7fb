-- `catchup::passed_over` meets its contract.
use mathlib.Core.Path.{◌≡◌}
use Prim.Native.Nat.{◌≤◌}
use Rattle.catchup.specs.Arrival.{rise}
use Rattle.catchup.proofs.passed_over.Given as goal

abbrev pub invariant-loop-s : goal.invariant-loop-s
invariant-loop-s l = (l.s ≤ 16) × (l.passed ≡ rise l.row l.upto l.s)
