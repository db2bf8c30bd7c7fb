-- `catchup::levels` meets its contract.
use mathlib.Core.Path.{◌≡◌}
use Prim.Native.Nat.{◌≤◌}
use lib.ListN.{length}
use Rattle.stations.specs.View.{stations_in}
use Rattle.catchup.specs.Arrival.{level_in}
use Rattle.catchup.proofs.RowLaws.{WrittenTo}
use Rattle.catchup.proofs.levels.Given as goal

abbrev pub invariant-loop-s : goal.invariant-loop-s
invariant-loop-s l = (l.s ≤ 16) × (length l.upto ≡ 16) × WrittenTo (level_in (stations_in l.stations) l.station.0 l.row) l.upto l.s
