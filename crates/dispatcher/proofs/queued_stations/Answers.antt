use native.Mathlib.Omega.{arith}
use Rattle.dispatcher.proofs.QueueLaws.{queues_none, queues_more, queues_all}
use Rattle.dispatcher.proofs.queued_stations.Goals as goal

pub loop-t-init : goal.loop-t-init
loop-t-init c = (omega arith, queues_none c.args.stations.now)

pub queue_seen-queued-requires : goal.queue_seen-queued-requires
queue_seen-queued-requires c =
    let counted = c.station_count-n.ensures in
    let pre = c.requires in
    (omega (arith, counted, pre), omega (arith, counted, pre))

pub loop-t-preserved : goal.loop-t-preserved
loop-t-preserved c =
    let l = c.loop-t in
    (omega arith, queues_more c.args.stations.now l.queued c.queue_seen-queued.result l.t l.invariant.1 c.queue_seen-queued.ensures)

pub returns : goal.returns
returns c =
    let l = c.loop-t in
    queues_all c.args.stations.now l.queued l.t (omega (arith, c.station_count-n.ensures)) l.invariant.1
