-- `form_tables::entries_ok` meets its contract. The invariant: the rooms passed keep the rule at every station.
use Prim.Native.Nat.{◌≤◌}
use Rattle.protocol.specs.Floor.{limits}
use Rattle.protocol.specs.Claims.{True, all}
use Rattle.protocol.specs.Form.{entry_rule}
use Rattle.form_tables.specs.Tables.{tables}
use Rattle.form_tables.proofs.entries_ok.Given as goal

abbrev pub invariant-loop-m : goal.invariant-loop-m
invariant-loop-m l = (l.m ≤ l.held) × True (all l.m (λ k. all l.rows (entry_rule limits (tables l.stations l.carts l.messages) k)))
