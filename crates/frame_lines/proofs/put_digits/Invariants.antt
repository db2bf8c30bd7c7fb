-- `frame_lines::put_digits` meets its contract.
use mathlib.Core.Path.{◌≡◌}
use Prim.Native.Nat.{◌-◌, ◌≤◌}
use lib.ListN.{length}
use Rattle.frame_lines.specs.Lines.{written, last_digits}
use Rattle.frame_lines.proofs.put_digits.Given as goal

abbrev pub invariant-loop-i : goal.invariant-loop-i
invariant-loop-i l = (l.at ≤ l.i) × (l.i ≤ length l.out) × (length l.out ≡ length l.initial.out) × (written l.out l.at (last_digits (l.i - l.at) l.left) ≡ written l.initial.out l.at (last_digits l.count l.n))

abbrev pub decreases-loop-i : goal.decreases-loop-i
decreases-loop-i l = l.i - l.at
