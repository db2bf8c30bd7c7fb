-- `form_tables::gather_entries` meets its contract. The invariant: the entries at the stations passed are collected.
use Prim.Native.Nat.{◌≤◌}
use Rattle.stations.specs.View.{stations_in}
use Rattle.form_tables.specs.Parts.{Entries}
use Rattle.form_tables.proofs.gather_entries.Given as goal

abbrev pub invariant-loop-t : goal.invariant-loop-t
invariant-loop-t l = (l.t ≤ l.n) × Entries (stations_in l.stations) l.m l.t l.sets l.queued l.strays
