-- `form_tables::copies_ok` meets its contract. The invariant: the copies of the rooms passed keep the rule.
use Prim.Native.Nat.{◌≤◌}
use Rattle.protocol.specs.Claims.{True, all}
use Rattle.form_tables.specs.Tables.{tables, copies_rule}
use Rattle.form_tables.proofs.copies_ok.Given as goal

abbrev pub invariant-loop-m : goal.invariant-loop-m
invariant-loop-m l = (l.m ≤ l.held) × True (all l.m (copies_rule (tables l.stations l.carts l.messages)))
