-- `lines::summary_ok` meets its contract. The invariant: the bits passed are right.
use mathlib.Core.Path.{◌≡◌}
use mathlib.Core.Bool.{true}
use Prim.Native.Nat.{◌≤◌}
use Rattle.protocol.specs.Folds.{every}
use Rattle.lines.proofs.Test.{summary_test}
use Rattle.lines.proofs.summary_ok.Given as goal

abbrev pub invariant-loop-w : goal.invariant-loop-w
invariant-loop-w l = (l.w ≤ 49) × (every l.w (summary_test l.pool) ≡ true)
