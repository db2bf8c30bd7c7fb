-- `frame_closing::held_messages` meets its contract. The invariant: so many of the rooms asked are taken.
use mathlib.Core.Path.{◌≡◌}
use Prim.Native.Nat.{◌-◌, ◌≤◌}
use Rattle.protocol.specs.Folds.{count}
use Rattle.frame_closing.specs.Closed.{is_taken}
use Rattle.frame_closing.proofs.held_messages.Given as goal

abbrev pub invariant-loop-m : goal.invariant-loop-m
invariant-loop-m l = (l.held ≡ count l.m (is_taken l.messages)) × (l.m ≤ 32) × (l.held ≤ l.m)
