-- `form_tables::carts_ok` meets its contract. The invariant: the carts passed keep the rule.
use mathlib.Core.List.{[]}
use Prim.Native.Nat.{◌≤◌}
use Rattle.protocol.specs.Floor.{limits}
use Rattle.protocol.specs.Claims.{True, all}
use Rattle.protocol.specs.Form.{cart_rule}
use Rattle.form_tables.specs.Tables.{tables}
use Rattle.form_tables.proofs.carts_ok.Given as goal

abbrev pub invariant-loop-number : goal.invariant-loop-number
invariant-loop-number l = (l.number ≤ l.k) × True (all l.number (cart_rule limits (tables l.stations l.carts [])))
