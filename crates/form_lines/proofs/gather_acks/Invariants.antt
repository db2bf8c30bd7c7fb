-- `form_lines::gather_acks` meets its contract.
use mathlib.Core.Path.{◌≡◌}
use Prim.Native.Nat.{◌≤◌}
use Rattle.protocol.specs.Folds.{every}
use Rattle.sets.specs.Masks.{disjoint}
use Rattle.messages.specs.View.{rooms_in}
use Rattle.stations.specs.View.{stations_in}
use Rattle.form_lines.specs.Pass.{gathered}
use Rattle.form_lines.proofs.gather_acks.Given as goal

abbrev pub invariant-loop-t : goal.invariant-loop-t
invariant-loop-t l = (l.t ≤ l.n) × (l.carts ≡ gathered (stations_in l.stations) (rooms_in l.messages) l.m l.t) × (l.apart ≡ every l.t (λ u. disjoint 64 ((stations_in l.stations).acks l.m u) (gathered (stations_in l.stations) (rooms_in l.messages) l.m u)))
