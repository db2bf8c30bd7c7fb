use native.Mathlib.Omega.{arith}
use Rattle.lines.proofs.Sums.{every_none}
use Rattle.lines.proofs.Test.{summary_test, summary_fails, summary_more, summary_end}
use Rattle.lines.proofs.summary_ok.Goals as goal

pub loop-w-init : goal.loop-w-init
loop-w-init c = (omega arith, every_none (summary_test c.args.pool.now))

pub returns-then-has-pool : goal.returns-then-has-pool
returns-then-has-pool c =
    let a = c.loop-w in
    let d = c.has in
    summary_fails c.args.pool.now a.w d.result d.ensures (omega arith) c.if-has-pool.true

pub loop-w-preserved : goal.loop-w-preserved
loop-w-preserved c =
    let a = c.loop-w in
    let d = c.has in
    (omega arith, summary_more c.args.pool.now a.w d.result d.ensures a.invariant.1 c.if-has-pool.false)

pub returns : goal.returns
returns c =
    let a = c.loop-w in
    summary_end c.args.pool.now a.w (omega arith) (omega arith) a.invariant.1
