-- `form_tables::rooms_ok` meets its contract. The invariant: the rooms passed keep the rule.
use mathlib.Core.List.{[]}
use Prim.Native.Nat.{◌≤◌}
use Rattle.protocol.specs.Claims.{True, all}
use Rattle.form_tables.specs.Tables.{tables, room_sets}
use Rattle.form_tables.proofs.rooms_ok.Given as goal

abbrev pub invariant-loop-m : goal.invariant-loop-m
invariant-loop-m l = (l.m ≤ l.held) × True (all l.m (room_sets (tables l.stations [] l.messages)))
