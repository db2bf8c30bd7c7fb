use native.Mathlib.Omega.{arith}
use borrow.Author.Tests.{not-true, not-false}
use Rattle.protocol.proofs.Answers.{passed, refused, one_more, all_yes, all_no}
use Rattle.form_tables.specs.Tables.{tables, copies_rule}
use mathlib.Core.Bool.{not}
use mathlib.Core.Path.{ap}
use Rattle.form_tables.proofs.copies_ok.Goals as goal

pub returns-then-not-copies_of : goal.returns-then-not-copies_of
returns-then-not-copies_of c =
    let s = c.args in
    let f = copies_rule (tables s.stations.now s.carts.now s.messages.now) in
    let a = c.loop-m in
    let t = c.copies_of in
    all_no s.held f a.m (omega arith) (refused (f a.m) t.result t.ensures (not-true _ (ap not c.if-not-copies_of.true)))

pub loop-m-preserved : goal.loop-m-preserved
loop-m-preserved c =
    let s = c.args in
    let f = copies_rule (tables s.stations.now s.carts.now s.messages.now) in
    let a = c.loop-m in
    let t = c.copies_of in
    (omega arith, one_more f a.m a.invariant.1 (passed (f a.m) t.result t.ensures (not-false _ (ap not c.if-not-copies_of.false))))

pub returns : goal.returns
returns c =
    let s = c.args in
    let a = c.loop-m in
    all_yes s.held (copies_rule (tables s.stations.now s.carts.now s.messages.now)) a.m (omega arith) a.invariant.1
