-- `catchup::enqueue_all` meets its contract.
use mathlib.Core.Path.{◌≡◌}
use Prim.Native.Nat.{ℕ}
use lib.ListN.{length}
use Rattle.sets.proofs.Walk.{Ahead}
use Rattle.queue.specs.Rooms.{room_count}
use Rattle.stations.specs.View.{stations_in, head_in}
use Rattle.messages.specs.View.{rooms_in}
use Rattle.catchup.specs.Arrival.{occurs, queued_for, deepest_to}
use Rattle.catchup.proofs.enqueue_all.Given as goal

-- the walk has come to initiator k, and the cart is queued for the nearest messages of those before it
abbrev pub invariant-loop-s : goal.invariant-loop-s
invariant-loop-s l =
    (k : ℕ)
    × Ahead 16 l.found l.s-iterator.left k
    × (length l.stations ≡ length l.initial.stations)
    × (head_in l.stations ≡ head_in l.initial.stations)
    × (stations_in l.stations ≡ queued_for (stations_in l.initial.stations) l.station.0 l.cart.0 (occurs l.nearest k))
    × (l.deepest ≡ deepest_to (stations_in l.initial.stations) (rooms_in l.messages) l.station.0 l.cart.0 (room_count l.messages) l.nearest k)
