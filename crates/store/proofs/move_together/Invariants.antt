-- `store::move_together` meets its contract. The invariant: the texts moved, and which is the next.
use Prim.Native.Nat.{◌-◌}
use Rattle.store.proofs.Turns.{Turning}
use Rattle.store.proofs.move_together.Given as goal

abbrev pub invariant-loop-m : goal.invariant-loop-m
invariant-loop-m l = Turning l.held l.initial.messages l.initial.store l.messages l.store l.to

abbrev pub decreases-loop-m : goal.decreases-loop-m
decreases-loop-m l = 4096 - l.to
