-- `form_tables::locals_of` meets its contract. The invariant: the masks are those of the carts passed.
use mathlib.Core.Path.{◌≡◌}
use Prim.Native.Nat.{◌≤◌}
use lib.ListN.{length}
use Rattle.carts.specs.View.{carts_in}
use Rattle.form_tables.proofs.Locals.{LocalsTo}
use Rattle.form_tables.proofs.locals_of.Given as goal

abbrev pub invariant-loop-number : goal.invariant-loop-number
invariant-loop-number l = (l.number ≤ l.k) × (length l.locals ≡ 16) × LocalsTo (carts_in l.carts).place l.locals l.number
