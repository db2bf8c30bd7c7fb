-- `reading::room_of` meets its contract. The invariant: no room that was passed has the message.
use mathlib.Core.List.{[]}
use Rattle.protocol.specs.Floor.{is_message}
use Rattle.form_tables.specs.Tables.{tables}
use Rattle.reading.proofs.Search.{PassedTo}
use Rattle.reading.proofs.room_of.Given as goal

abbrev pub invariant-loop-m : goal.invariant-loop-m
invariant-loop-m l = PassedTo (is_message (tables [] [] l.messages) l.initiator.0 l.number.0) l.m
