use native.Mathlib.Omega.{arith}
use borrow.Author.Tests.{not-true, not-false}
use Rattle.protocol.proofs.Answers.{one_more, all_yes, all_no, passed, refused}
use Rattle.messages.specs.View.{rooms_in}
use Rattle.store.specs.Layout.{text_rule}
use mathlib.Core.Bool.{not}
use mathlib.Core.Path.{ap}
use Rattle.store.proofs.texts_lie_right.Goals as goal

pub returns-then-not-lies_right : goal.returns-then-not-lies_right
returns-then-not-lies_right c =
    let a = c.args in
    let f = text_rule (rooms_in a.messages.now) in
    let m = c.loop-m.m in
    let t = c.lies_right in
    all_no a.held f m (omega arith) (refused (f m) t.result t.ensures (not-true _ (ap not c.if-not-lies_right.true)))

pub loop-m-preserved : goal.loop-m-preserved
loop-m-preserved c =
    let a = c.args in
    let f = text_rule (rooms_in a.messages.now) in
    let l = c.loop-m in
    let t = c.lies_right in
    (omega arith, one_more f l.m l.invariant.1 (passed (f l.m) t.result t.ensures (not-false _ (ap not c.if-not-lies_right.false))))

pub returns : goal.returns
returns c =
    let a = c.args in
    let l = c.loop-m in
    all_yes a.held (text_rule (rooms_in a.messages.now)) l.m (omega arith) l.invariant.1
