-- `form_tables::row_sent` meets its contract. The invariant: the next numbers passed are at most what was sent.
use Prim.Native.Nat.{◌≤◌}
use Rattle.protocol.specs.Claims.{True, all, le}
use Rattle.stations.specs.View.{stations_in}
use Rattle.carts.specs.View.{carts_in}
use Rattle.form_tables.proofs.row_sent.Given as goal

abbrev pub invariant-loop-s : goal.invariant-loop-s
invariant-loop-s l = (l.s ≤ l.n) × True (all l.s (λ k. le ((carts_in l.carts).next l.number.0 k) ((stations_in l.stations).sent k)))
