-- `store::filling_of` meets its contract. The invariant: both of the rooms passed.
use mathlib.Core.Path.{◌≡◌}
use Prim.Native.Nat.{◌≤◌}
use Rattle.messages.specs.View.{rooms_in}
use Rattle.store.specs.Layout.{used_in, end_in}
use Rattle.store.proofs.filling_of.Given as goal

abbrev pub invariant-loop-m : goal.invariant-loop-m
invariant-loop-m l = (l.m ≤ l.held) × (l.octets ≡ used_in l.m (rooms_in l.messages)) × (l.end ≡ end_in l.m (rooms_in l.messages))
