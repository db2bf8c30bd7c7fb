-- `form_lines::from_each` meets its contract.
use mathlib.Core.Path.{◌≡◌}
use Prim.Native.Nat.{◌*◌, ◌≤◌}
use lib.ListN.{length}
use Rattle.carts.specs.View.{carts_in}
use Rattle.messages.specs.View.{rooms_in}
use Rattle.stations.specs.View.{stations_in}
use Rattle.form_lines.specs.Pass.{from_each}
use Rattle.form_lines.specs.Ways.{met_of, Whole}
use Rattle.form_lines.proofs.from_each.Given as goal

abbrev pub invariant-loop-i : goal.invariant-loop-i
invariant-loop-i l =
    (l.i ≤ 16)
    × (length l.masks ≡ 32)
    × (length l.seen ≡ 49)
    × Whole l.lines (l.i * 16) l.seen
    × (met_of l.met l.masks ≡ from_each l.size.stations l.size.carts (carts_in l.carts) (rooms_in l.messages) (stations_in l.stations) l.lines (met_of l.initial.met l.initial.masks) l.i)
