-- `frame_lines::digits_of` meets its contract.
use mathlib.Core.Path.{◌≡◌}
use Prim.Native.Nat.{◌+◌, ◌≤◌}
use lib.ListN.{length}
use Rattle.protocol.specs.Printed.{decimal}
use Rattle.frame_lines.specs.Lines.{longest_number}
use Rattle.frame_lines.proofs.digits_of.Given as goal

abbrev pub invariant-loop-left : goal.invariant-loop-left
invariant-loop-left l = (l.count + length (decimal l.left) ≡ length (decimal l.n) + 1) × (length (decimal l.n) ≤ longest_number)

abbrev pub decreases-loop-left : goal.decreases-loop-left
decreases-loop-left l = l.left
