-- `catchup::stops_of` meets its contract.
use mathlib.Core.Path.{◌≡◌}
use Prim.Native.Nat.{ℕ}
use lib.ListN.{length}
use Rattle.sets.proofs.Walk.{Ahead}
use Rattle.queue.specs.Rooms.{tables_floor, room_count}
use Rattle.catchup.specs.Arrival.{Marks}
use Rattle.catchup.proofs.OnePass.{Known}
use Rattle.catchup.proofs.stops_of.Given as goal

abbrev pub invariant-loop-m : goal.invariant-loop-m
invariant-loop-m l =
    (k : ℕ) × Ahead (room_count l.messages) l.naming l.m-iterator.left k × Known (tables_floor l.stations l.messages) l.station.0 l.cart.0 l.row k l.upto l.nearest
    × (length l.nearest ≡ 16) × Marks l.nearest l.found
