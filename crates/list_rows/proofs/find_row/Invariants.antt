-- `list_rows::find_row` meets its contract.
use mathlib.Core.Path.{◌≡◌}
use mathlib.Core.Bool.{false}
use mathlib.Core.List.{[]}
use Prim.Native.Nat.{ℕ, ◌<◌}
use Rattle.list_rows.specs.Rows.{rows_in, waits}
use Rattle.list_rows.proofs.find_row.Given as goal

abbrev pub invariant-loop-row : goal.invariant-loop-row
invariant-loop-row l = (r : ℕ) → r < l.row → waits l.station.0 l.cart.0 (rows_in l.sends [] r) ≡ false
