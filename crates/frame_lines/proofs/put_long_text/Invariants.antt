-- `frame_lines::put_long_text` meets its contract.
use Prim.Native.Nat.{◌+◌, ◌*◌, ◌≤◌}
use lib.ListN.{length, take}
use Rattle.protocol.specs.Printed.{hexadecimal}
use Rattle.frame_lines.specs.Lines.{Wrote, long_digits, longest_text}
use Rattle.frame_lines.proofs.put_long_text.Given as goal

abbrev pub invariant-loop-i : goal.invariant-loop-i
invariant-loop-i l = (l.i ≤ length l.text) × (l.at + longest_text ≤ length l.initial.out) × Wrote long_digits (hexadecimal (take l.i l.text)) l.initial.out l.out (l.at + 1) (l.at + 1 + 2 * l.i)
