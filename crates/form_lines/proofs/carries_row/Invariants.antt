-- `form_lines::carries_row` meets its contract. The invariant: the numbers passed are the same.
use mathlib.Core.Path.{◌≡◌}
use Prim.Native.Nat.{◌≤◌}
use lib.Dec.{eqb}
use Rattle.protocol.specs.Folds.{every}
use Rattle.lines.specs.Lines.{registers_in}
use Rattle.carts.specs.View.{carts_in}
use Rattle.form_lines.proofs.carries_row.Given as goal

abbrev pub invariant-loop-s : goal.invariant-loop-s
invariant-loop-s l = (l.s ≤ 16) × (l.ok ≡ every l.s (λ t. eqb (registers_in l.lines l.cart.0 t) ((carts_in l.carts).next l.cart.0 t)))
