-- `list_rows::squeeze` meets its contract.
use mathlib.Core.Path.{◌≡◌}
use Prim.Native.Nat.{◌≤◌}
use lib.ListN.{length}
use Rattle.list_rows.specs.Rows.{rows_in, used_rows, squeezed}
use Rattle.list_rows.proofs.squeeze.Given as goal

abbrev pub invariant-loop-from : goal.invariant-loop-from
invariant-loop-from l =
    (l.from ≤ l.used)
    × (length l.sends ≡ length l.initial.sends)
    × (length l.octets ≡ length l.initial.octets)
    × (used_rows (rows_in l.sends l.octets) l.kept ≡ squeezed (rows_in l.initial.sends l.initial.octets) l.from)
