-- `dispatcher::run_until_quiet` meets its contract. The invariant: the steps that remain lead to the written end. The steps left fall.
use Prim.Native.Nat.{◌-◌}
use Rattle.dispatcher.specs.Busy.{busy}
use Rattle.dispatcher.proofs.Going.{Running}
use Rattle.dispatcher.proofs.run_until_quiet.Given as goal

abbrev pub invariant-loop-next : goal.invariant-loop-next
invariant-loop-next l = Running l.initial.stations l.initial.carts l.initial.messages l.initial.lines l.stations l.carts l.messages l.lines l.texts l.store l.initial.buffer l.buffer l.steps (busy l.targets l.pending.sources) l.pending.queued l.next

abbrev pub decreases-loop-next : goal.decreases-loop-next
decreases-loop-next l = 5248 - l.steps
