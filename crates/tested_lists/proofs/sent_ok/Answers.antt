use native.Mathlib.Omega.{arith}
use Rattle.protocol.proofs.Tests.{by_eq}
use Rattle.lists.specs.View.{counts_in}
use Rattle.tested_lists.specs.Form.{sent_rule}
use Rattle.tested_lists.proofs.Pass.{fails, holds}
use Rattle.tested_lists.proofs.sent_ok.Goals as goal

pub loop-s-init : goal.loop-s-init
loop-s-init c = (omega arith, λ t l. absurd (omega arith))

pub overflow_add-at : goal.overflow_add-at
overflow_add-at c = omega arith

pub offset_bounds-counts-at : goal.offset_bounds-counts-at
offset_bounds-counts-at c = omega arith

pub bounds-counts-at : goal.bounds-counts-at
bounds-counts-at c = omega arith

pub returns-then-counts-at-gt-MOST_SENT : goal.returns-then-counts-at-gt-MOST_SENT
returns-then-counts-at-gt-MOST_SENT c =
    let a = c.args in
    let l = c.loop-s in
    fails (sent_rule (counts_in a.counts.now) a.n) (λ h. let z = h l.s c.loop-s-test.true in let y = c.if-counts-at-gt-MOST_SENT.true in omega arith)

pub loop-s-preserved : goal.loop-s-preserved
loop-s-preserved c =
    let a = c.args in
    let l = c.loop-s in
    (omega arith, λ t h. by_eq t l.s (λ e. rw e (omega (arith, c.if-counts-at-gt-MOST_SENT.false))) (λ e. l.invariant.1 t (omega arith)))

pub returns : goal.returns
returns c =
    let a = c.args in
    let l = c.loop-s in
    holds (sent_rule (counts_in a.counts.now) a.n) (λ t h. l.invariant.1 t (omega arith))
