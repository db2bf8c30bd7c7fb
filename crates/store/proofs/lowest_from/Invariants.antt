-- `store::lowest_from` meets its contract. The invariant: the best of the rooms passed.
use Prim.Native.Nat.{◌≤◌}
use Rattle.messages.specs.View.{rooms_in}
use Rattle.store.proofs.Lowest.{Best}
use Rattle.store.proofs.lowest_from.Given as goal

abbrev pub invariant-loop-m : goal.invariant-loop-m
invariant-loop-m l = (l.m ≤ l.held) × Best l.held (rooms_in l.messages) l.from l.m l.least l.room
