-- `queue::head` meets its contract.
use mathlib.Core.Path.{◌≡◌}
use Prim.Native.Nat.{ℕ}
use Rattle.sets.proofs.Walk.{Ahead}
use Rattle.stations.specs.View.{entries_in}
use Rattle.queue.specs.Rooms.{tables_floor}
use Rattle.queue.specs.Keys.{has_entry, first_among}
use Rattle.queue.proofs.KeyLaws.{best_of}
use Rattle.queue.proofs.head.Given as goal

-- the walk has come to room k, and the head among the rooms before it is known, with its key
abbrev pub invariant-loop-m : goal.invariant-loop-m
invariant-loop-m l =
    let F = tables_floor l.stations l.messages in
    (k : ℕ) × Ahead 32 (entries_in l.stations l.station.0) l.m-iterator.left k × (l.best ≡ best_of F (first_among F (has_entry F l.station.0) k))
