-- `handoff::complete_rooms` meets its contract.
use mathlib.Core.Path.{◌≡◌}
use Prim.Native.Nat.{ℕ}
use Rattle.protocol.specs.CartSets.{set_of}
use Rattle.sets.proofs.Walk.{Ahead}
use Rattle.stations.specs.View.{stations_in, listing_in}
use Rattle.messages.specs.View.{rooms_in}
use Rattle.handoff.specs.Forwarded.{goes}
use Rattle.handoff.proofs.complete_rooms.Given as goal

-- the walk has come to room k, and those of the rooms before it whose lists go are found
abbrev pub invariant-loop-m : goal.invariant-loop-m
invariant-loop-m l = (k : ℕ) × Ahead 32 (listing_in (stations_in l.stations) l.station.0) l.m-iterator.left k × (l.complete ≡ set_of k (goes (stations_in l.stations) (rooms_in l.messages) l.station.0))
