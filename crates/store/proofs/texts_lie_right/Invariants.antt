-- `store::texts_lie_right` meets its contract. The invariant: the texts passed lie right.
use Prim.Native.Nat.{◌≤◌}
use Rattle.protocol.specs.Claims.{True}
use Rattle.messages.specs.View.{rooms_in}
use Rattle.store.specs.Layout.{layout_rule}
use Rattle.store.proofs.texts_lie_right.Given as goal

abbrev pub invariant-loop-m : goal.invariant-loop-m
invariant-loop-m l = (l.m ≤ l.held) × True (layout_rule l.m (rooms_in l.messages))
