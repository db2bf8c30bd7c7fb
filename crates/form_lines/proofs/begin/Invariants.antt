-- `form_lines::begin` meets its contract.
use mathlib.Core.Path.{◌≡◌}
use mathlib.Core.Bool.{◌||◌, not}
use Prim.Native.Nat.{◌≤◌}
use lib.ListN.{length}
use Rattle.protocol.specs.Folds.{every}
use Rattle.rows.proofs.WordByWord.{ReadTo}
use Rattle.messages.specs.View.{rooms_in}
use Rattle.stations.specs.View.{stations_in}
use Rattle.form_lines.specs.Pass.{gathered, apart, is_taken}
use Rattle.form_lines.proofs.begin.Given as goal

abbrev pub invariant-loop-m : goal.invariant-loop-m
invariant-loop-m l =
    (l.m ≤ 32) × (length l.masks ≡ 32) × ReadTo (λ x. gathered (stations_in l.stations) (rooms_in l.messages) x l.n) l.masks l.m
    × (l.ok ≡ every l.m (λ x. not (is_taken (rooms_in l.messages) x) || apart (stations_in l.stations) (rooms_in l.messages) x l.n))
