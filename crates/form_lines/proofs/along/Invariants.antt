-- `form_lines::along` meets its contract. The invariant: what is still to come of the line and the marks make up the whole line, and from what
-- was met so far the rest of it leads where the whole of it does.
use mathlib.Core.Path.{◌≡◌}
use mathlib.Core.List.{map}
use Prim.Native.Nat.{◌+◌, ◌*◌}
use lib.ListN.{length}
use Rattle.carts.specs.View.{carts_in}
use Rattle.messages.specs.View.{rooms_in}
use Rattle.lines.specs.Lines.{records_from, registers_in}
use Rattle.lines.proofs.Test as chains
use Rattle.form_lines.specs.Said.{said, said_on}
use Rattle.form_lines.specs.Pass.{along}
use Rattle.form_lines.specs.Ways.{met_of}
use Rattle.form_lines.proofs.along.Given as goal

abbrev pub invariant-loop-left : goal.invariant-loop-left
invariant-loop-left l =
    (length l.masks ≡ 32)
    × chains.Walk l.lines (l.i * 16 + l.j) l.initial.seen l.rows l.seen l.left l.row l.last
    × (along l.size.stations l.size.carts (carts_in l.carts) (rooms_in l.messages) (registers_in l.lines) (met_of l.met l.masks) l.i l.j (map said (records_from l.lines l.row l.left)) ≡ along l.size.stations l.size.carts (carts_in l.carts) (rooms_in l.messages) (registers_in l.lines) (met_of l.initial.met l.initial.masks) l.i l.j (said_on l.lines l.i l.j))

abbrev pub decreases-loop-left : goal.decreases-loop-left
decreases-loop-left l = l.left
