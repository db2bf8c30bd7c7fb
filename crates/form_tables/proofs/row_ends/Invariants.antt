-- `form_tables::row_ends` meets its contract. The invariant: the next numbers passed are 0.
use Prim.Native.Nat.{◌≤◌}
use Rattle.protocol.specs.Claims.{True, all, when, le, eq}
use Rattle.carts.specs.View.{carts_in}
use Rattle.form_tables.proofs.row_ends.Given as goal

abbrev pub invariant-loop-s : goal.invariant-loop-s
invariant-loop-s l = (l.n ≤ l.s) × (l.s ≤ 16) × True (all l.s (λ k. when (le l.n k) (eq ((carts_in l.carts).next l.number.0 k) 0)))
