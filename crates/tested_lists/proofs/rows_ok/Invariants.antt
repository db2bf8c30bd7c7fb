-- `tested_lists::rows_ok` meets its contract.
use mathlib.Core.List.{List}
use Prim.Native.Nat.{ℕ, ◌≤◌}
use Rattle.list_rows.specs.Rows.{rows_in}
use Rattle.lists.specs.View.{counts_in}
use Rattle.tested_lists.proofs.Pass.{SoFar}
use Rattle.tested_lists.proofs.rows_ok.Given as goal

abbrev pub invariant-loop-row : goal.invariant-loop-row
invariant-loop-row l = (l.row ≤ l.used) × ((octets : List ℕ) → SoFar (counts_in l.counts) (rows_in l.sends octets) l.low l.entries l.row)
