use mathlib.Core.List.{[]}
use native.Mathlib.Omega.{arith}
use Rattle.protocol.specs.Floor.{is_message}
use Rattle.form_tables.specs.Tables.{tables}
use Rattle.reading.proofs.Search.{passed_more, found_here, found_nowhere}
use Rattle.reading.proofs.room_of.Goals as goal

pub loop-m-init : goal.loop-m-init
loop-m-init c = λ k l. absurd (omega arith)

pub returns-then-is_message : goal.returns-then-is_message
returns-then-is_message c =
    let a = c.args in
    found_here a.held (is_message (tables [] [] a.messages.now) a.initiator.0 a.number.0) c.loop-m.m c.is_message.result c.is_message.ensures c.if-is_message.true (omega arith) c.loop-m.invariant

pub loop-m-preserved : goal.loop-m-preserved
loop-m-preserved c =
    let a = c.args in
    passed_more a.held (is_message (tables [] [] a.messages.now) a.initiator.0 a.number.0) c.loop-m.m c.is_message.result c.is_message.ensures c.if-is_message.false c.loop-m.invariant

pub returns : goal.returns
returns c =
    let a = c.args in
    found_nowhere a.held (is_message (tables [] [] a.messages.now) a.initiator.0 a.number.0) c.loop-m.m (omega arith) c.loop-m.invariant
