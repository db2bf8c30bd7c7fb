use native.Mathlib.Omega.{arith}
use Rattle.wired_send.proofs.RoomLaws.{taken_more, free_here, free_nowhere}
use Rattle.wired_send.proofs.free_room.Goals as goal

pub loop-m-init : goal.loop-m-init
loop-m-init c = λ k l. absurd (omega arith)

pub returns-then-waiting_of-eq0 : goal.returns-then-waiting_of-eq0
returns-then-waiting_of-eq0 c = free_here c.args.held c.args.messages.now c.loop-m.m c.waiting_of.result c.waiting_of.ensures (omega arith) (omega arith) c.loop-m.invariant

pub loop-m-preserved : goal.loop-m-preserved
loop-m-preserved c = taken_more c.args.held c.args.messages.now c.loop-m.m c.waiting_of.result c.waiting_of.ensures c.if-waiting_of-eq0.false c.loop-m.invariant

pub returns : goal.returns
returns c = free_nowhere c.args.held c.args.messages.now c.loop-m.m (omega arith) c.loop-m.invariant
