-- `form_tables::rooms_end` meets its contract. The invariant: the rooms passed have no copy and no entry.
use Prim.Native.Nat.{◌≤◌}
use Rattle.protocol.specs.Claims.{True, all, when, le, eq, both}
use Rattle.stations.specs.View.{stations_in}
use Rattle.form_tables.proofs.rooms_end.Given as goal

abbrev pub invariant-loop-m : goal.invariant-loop-m
invariant-loop-m l = (l.held ≤ l.m) × (l.m ≤ 32) × True (all l.m (λ k. when (le l.held k) (both (eq ((stations_in l.stations).copy k l.t.0) 0) (eq ((stations_in l.stations).queue k l.t.0) 0))))
