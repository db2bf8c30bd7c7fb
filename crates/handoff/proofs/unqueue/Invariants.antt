-- `handoff::unqueue` meets its contract.
use mathlib.Core.Path.{◌≡◌}
use Prim.Native.Nat.{ℕ}
use lib.ListN.{length}
use Rattle.sets.proofs.Walk.{Ahead}
use Rattle.stations.specs.View.{stations_in, head_in, entries_in}
use Rattle.handoff.proofs.RoomByRoom.{unqueued_to}
use Rattle.handoff.proofs.unqueue.Given as goal

-- the walk over the entries that there were has come to room k, and the cart has left those of the rooms before it
abbrev pub invariant-loop-m : goal.invariant-loop-m
invariant-loop-m l =
    (k : ℕ)
    × Ahead 32 (entries_in l.initial.stations l.station.0) l.m-iterator.left k
    × (length l.stations ≡ length l.initial.stations)
    × (head_in l.stations ≡ head_in l.initial.stations)
    × (stations_in l.stations ≡ unqueued_to (stations_in l.initial.stations) l.station.0 l.number.0 k)
