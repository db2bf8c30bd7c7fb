-- `frame_lines::room_digits` meets its contract.
use Prim.Native.Nat.{◌*◌, ◌≤◌}
use lib.ListN.{take}
use Rattle.protocol.specs.Printed.{hexadecimal}
use Rattle.frame_lines.specs.Lines.{Wrote, text_octets, text_digits}
use Rattle.frame_lines.proofs.room_digits.Given as goal

abbrev pub invariant-loop-i : goal.invariant-loop-i
invariant-loop-i l = (l.i ≤ text_octets) × Wrote text_digits (hexadecimal (take l.i l.room)) l.initial.digits l.digits 0 (2 * l.i)
