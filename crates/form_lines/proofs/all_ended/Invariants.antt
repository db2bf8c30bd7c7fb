-- `form_lines::all_ended` meets its contract.
use mathlib.Core.Path.{◌≡◌}
use Prim.Native.Nat.{◌≤◌}
use Rattle.protocol.specs.Folds.{every}
use Rattle.carts.specs.View.{carts_in}
use Rattle.messages.specs.View.{rooms_in}
use Rattle.form_lines.specs.Pass.{ended}
use Rattle.form_lines.proofs.all_ended.Given as goal

abbrev pub invariant-loop-m : goal.invariant-loop-m
invariant-loop-m l = (l.m ≤ 32) × (l.ok ≡ every l.m (ended l.k (carts_in l.carts) (rooms_in l.messages) l.masks))
