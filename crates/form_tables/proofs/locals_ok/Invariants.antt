-- `form_tables::locals_ok` meets its contract. The invariant: the masks passed are right.
use mathlib.Core.List.{[]}
use Prim.Native.Nat.{◌≤◌}
use Rattle.protocol.specs.Floor.{whole_floor}
use Rattle.protocol.specs.Claims.{True, all, is}
use Rattle.view.specs.View.{lent, local_right}
use Rattle.form_tables.proofs.locals_ok.Given as goal

abbrev pub invariant-loop-t : goal.invariant-loop-t
invariant-loop-t l = (l.t ≤ l.n) × True (all l.t (λ j. is (local_right (lent whole_floor l.stations l.carts [] [] [] []) j)))
