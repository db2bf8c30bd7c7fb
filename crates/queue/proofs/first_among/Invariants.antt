-- `queue::first_among` meets its contract.
use mathlib.Core.Path.{◌≡◌}
use mathlib.Core.List.{[]}
use Prim.Native.Nat.{ℕ}
use Rattle.protocol.specs.CartSets.{has}
use Rattle.sets.proofs.Walk.{Ahead}
use Rattle.queue.specs.Rooms.{tables_floor}
use Rattle.queue.specs.Keys.{first_among}
use Rattle.queue.proofs.KeyLaws.{best_of}
use Rattle.queue.proofs.first_among.Given as goal

-- the walk has come to room k, and the first among the rooms before it is known, with its key
abbrev pub invariant-loop-m : goal.invariant-loop-m
invariant-loop-m l =
    let F = tables_floor [] l.messages in
    (k : ℕ) × Ahead 32 l.among l.m-iterator.left k × (l.best ≡ best_of F (first_among F (has l.among) k))
