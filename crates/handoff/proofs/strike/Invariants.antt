-- `handoff::strike` meets its contract.
use mathlib.Core.Path.{◌≡◌}
use Prim.Native.Nat.{ℕ}
use lib.ListN.{length}
use Rattle.queue.specs.Rooms.{room_count}
use Rattle.sets.proofs.Walk.{Ahead}
use Rattle.stations.specs.View.{stations_in, head_in}
use Rattle.messages.specs.View.{rooms_in}
use Rattle.catchup.specs.Naming.{Covers}
use Rattle.handoff.proofs.RoomByRoom.{struck_to}
use Rattle.handoff.proofs.strike.Given as goal

-- the walk over the rooms that may name the cart has come to room k, and the cart is struck in the rooms before it; those ahead may name it still
abbrev pub invariant-loop-m : goal.invariant-loop-m
invariant-loop-m l =
    (k : ℕ)
    × Ahead (room_count l.messages) l.naming l.m-iterator.left k
    × (length l.stations ≡ length l.initial.stations)
    × (head_in l.stations ≡ head_in l.initial.stations)
    × (stations_in l.stations ≡ struck_to (stations_in l.initial.stations) (rooms_in l.messages) l.station.0 l.cart.0 l.row k)
    × Covers (room_count l.messages) (stations_in l.stations) l.station.0 l.cart.0 l.ahead
