use native.Mathlib.Omega.{arith}
use borrow.Author.Tests.{not-true, not-false}
use Rattle.protocol.proofs.Answers.{passed, refused, one_more, all_yes, all_no}
use Rattle.form_tables.specs.Tables.{rooms_end}
use mathlib.Core.Bool.{not}
use mathlib.Core.Path.{ap}
use Rattle.form_tables.proofs.ends_ok.Goals as goal

pub returns-then-not-rooms_end : goal.returns-then-not-rooms_end
returns-then-not-rooms_end c =
    let s = c.args in
    let f = rooms_end s.held s.stations.now in
    let a = c.loop-t in
    let t = c.rooms_end in
    all_no s.n f a.t (omega arith) (refused (f a.t) t.result t.ensures (not-true _ (ap not c.if-not-rooms_end.true)))

pub loop-t-preserved : goal.loop-t-preserved
loop-t-preserved c =
    let s = c.args in
    let f = rooms_end s.held s.stations.now in
    let a = c.loop-t in
    let t = c.rooms_end in
    (omega arith, one_more f a.t a.invariant.1 (passed (f a.t) t.result t.ensures (not-false _ (ap not c.if-not-rooms_end.false))))

pub returns : goal.returns
returns c =
    let s = c.args in
    let a = c.loop-t in
    all_yes s.n (rooms_end s.held s.stations.now) a.t (omega arith) a.invariant.1
