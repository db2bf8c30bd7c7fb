-- `store::is_clear_before` meets its contract. The invariant: the rooms passed are clear.
use Prim.Native.Nat.{◌≤◌}
use Rattle.protocol.specs.Claims.{True, all, is, when}
use Rattle.messages.specs.View.{rooms_in}
use Rattle.store.specs.Texts.{is_stored}
use Rattle.store.specs.Layout.{apart}
use Rattle.store.proofs.is_clear_before.Given as goal

abbrev pub invariant-loop-k : goal.invariant-loop-k
invariant-loop-k l = (l.k ≤ l.m) × True (all l.k (λ j. when (is (is_stored (rooms_in l.messages) j)) (apart (rooms_in l.messages) j l.m)))
