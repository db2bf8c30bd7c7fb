use native.Mathlib.Omega.{arith}
use Rattle.frame_closing.specs.Closed.{is_taken}
use Rattle.frame_closing.proofs.Lines.{count_none, count_more, count_all}
use Rattle.frame_closing.proofs.held_messages.Goals as goal

pub loop-m-init : goal.loop-m-init
loop-m-init c = (count_none _, omega arith, omega arith)

pub overflow_add-held : goal.overflow_add-held
overflow_add-held c = omega (arith, (count_more (is_taken c.args.messages.now) c.loop-m.m c.loop-m.held _ _ c.loop-m.invariant.0 c.is_taken.ensures c.from-held.ensures).1, c.loop-m.invariant.1, c.loop-m.invariant.2)

pub loop-m-preserved : goal.loop-m-preserved
loop-m-preserved c =
    let l = c.loop-m in
    let more = count_more (is_taken c.args.messages.now) l.m l.held _ _ l.invariant.0 c.is_taken.ensures c.from-held.ensures in
    (more.0, omega arith, omega (arith, l.invariant.2, more.1))

pub returns : goal.returns
returns c =
    let l = c.loop-m in
    count_all (is_taken c.args.messages.now) l.m l.held l.invariant.0 (omega (arith, l.invariant.1))
