-- `catchup::nearest_of` meets its contract.
use mathlib.Core.Path.{◌≡◌}
use Prim.Native.Nat.{ℕ}
use Rattle.sets.proofs.Walk.{Ahead}
use Rattle.stations.specs.View.{stations_in, naming_in}
use Rattle.queue.specs.Rooms.{tables_floor, room_code, room_count}
use Rattle.catchup.specs.Nearest.{nearest_among}
use Rattle.catchup.proofs.nearest_of.Given as goal

-- the walk has come to room k, and the nearest among the rooms before it is known
abbrev pub invariant-loop-m : goal.invariant-loop-m
invariant-loop-m l =
    (k : ℕ) × Ahead (room_count l.messages) (naming_in (stations_in l.stations) l.station.0 l.cart.0) l.m-iterator.left k
    × (l.nearest ≡ room_code (nearest_among (tables_floor l.stations l.messages) l.station.0 l.cart.0 l.initiator.0 l.next k))
