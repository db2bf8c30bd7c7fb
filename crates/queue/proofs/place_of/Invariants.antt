-- `queue::place_of` meets its contract.
use mathlib.Core.Path.{◌≡◌}
use mathlib.Core.Bool.{◌&&◌}
use Prim.Native.Nat.{ℕ}
use lib.Dec.{ltb}
use Rattle.protocol.specs.Folds.{count}
use Rattle.protocol.specs.CartSets.{without}
use Rattle.sets.proofs.Walk.{Ahead}
use Rattle.stations.specs.View.{entries_in, stations_in}
use Rattle.messages.specs.View.{rooms_in}
use Rattle.queue.specs.Rooms.{room_count}
use Rattle.queue.specs.Places.{is_ahead}
use Rattle.queue.proofs.place_of.Given as goal

-- the walk has come to room k, and those ahead among the rooms before it are counted
abbrev pub invariant-loop-k : goal.invariant-loop-k
invariant-loop-k l =
    (k : ℕ) × Ahead 32 (without (entries_in l.stations l.station.0) l.m) l.k-iterator.left k
    × (l.before ≡ count k (λ r. ltb r (room_count l.messages) && is_ahead (stations_in l.stations) (rooms_in l.messages) l.station.0 l.m r))
