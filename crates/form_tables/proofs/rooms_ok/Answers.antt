use mathlib.Core.List.{[]}
use native.Mathlib.Omega.{arith}
use borrow.Author.Tests.{not-true, not-false}
use Rattle.protocol.proofs.Answers.{passed, refused, one_more, all_yes, all_no}
use Rattle.form_tables.specs.Tables.{tables, room_sets}
use mathlib.Core.Bool.{not}
use mathlib.Core.Path.{ap}
use Rattle.form_tables.proofs.rooms_ok.Goals as goal

pub returns-then-not-room_ok : goal.returns-then-not-room_ok
returns-then-not-room_ok c =
    let f = room_sets (tables c.args.stations.now [] c.args.messages.now) in
    let a = c.loop-m in
    let t = c.room_ok in
    all_no c.args.held f a.m (omega arith) (refused (f a.m) t.result t.ensures (not-true _ (ap not c.if-not-room_ok.true)))

pub loop-m-preserved : goal.loop-m-preserved
loop-m-preserved c =
    let f = room_sets (tables c.args.stations.now [] c.args.messages.now) in
    let a = c.loop-m in
    let t = c.room_ok in
    (omega arith, one_more f a.m a.invariant.1 (passed (f a.m) t.result t.ensures (not-false _ (ap not c.if-not-room_ok.false))))

pub returns : goal.returns
returns c =
    let a = c.loop-m in
    all_yes c.args.held (room_sets (tables c.args.stations.now [] c.args.messages.now)) a.m (omega arith) a.invariant.1
