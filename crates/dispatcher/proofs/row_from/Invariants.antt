-- `dispatcher::row_from` meets its contract.
use mathlib.Core.Path.{◌≡◌}
use Prim.Native.Nat.{◌≤◌}
use Rattle.view.specs.Records.{lines_in}
use Rattle.dispatcher.proofs.BusyLaws.{row_to}
use Rattle.dispatcher.proofs.row_from.Given as goal

abbrev pub invariant-loop-j : goal.invariant-loop-j
invariant-loop-j l = (l.j ≤ 16) × (l.row ≡ row_to (lines_in l.lines) l.i l.j)
