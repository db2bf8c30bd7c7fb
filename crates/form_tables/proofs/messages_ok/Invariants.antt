-- `form_tables::messages_ok` meets its contract. The invariant: the rooms passed keep the rule, each with the rooms before it.
use mathlib.Core.List.{[]}
use Prim.Native.Nat.{◌≤◌}
use Rattle.protocol.specs.Claims.{True, all}
use Rattle.form_tables.specs.Tables.{tables}
use Rattle.form_tables.specs.Parts.{held_before}
use Rattle.form_tables.proofs.messages_ok.Given as goal

abbrev pub invariant-loop-m : goal.invariant-loop-m
invariant-loop-m l = (l.m ≤ l.held) × True (all l.m (held_before (tables l.stations [] l.messages)))
