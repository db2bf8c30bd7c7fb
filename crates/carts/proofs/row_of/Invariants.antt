-- `carts::row_of` meets its contract.
use mathlib.Core.Path.{◌≡◌}
use Prim.Native.Nat.{◌≤◌}
use lib.ListN.{length}
use Rattle.carts.specs.View.{carts_in}
use Rattle.rows.proofs.WordByWord.{ReadTo}
use Rattle.carts.proofs.row_of.Given as goal

abbrev pub invariant-loop-i : goal.invariant-loop-i
invariant-loop-i l = (l.i ≤ 16) × (length l.row ≡ 16) × ReadTo ((carts_in l.carts).next l.number.0) l.row l.i
