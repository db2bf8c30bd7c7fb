-- `carts::put_row` meets its contract.
use mathlib.Core.Path.{◌≡◌}
use Prim.Native.Nat.{◌≤◌}
use lib.ListN.{length}
use Rattle.carts.specs.View.{carts_in, canonical_in}
use Rattle.carts.proofs.TableLaws.{written_to}
use Rattle.carts.proofs.put_row.Given as goal

abbrev pub invariant-loop-i : goal.invariant-loop-i
invariant-loop-i l =
    (l.i ≤ 16)
    × (length l.carts ≡ length l.initial.carts)
    × (carts_in l.carts ≡ written_to l.i (carts_in l.initial.carts) l.number.0 l.row)
    × (canonical_in l.carts ≡ canonical_in l.initial.carts)
