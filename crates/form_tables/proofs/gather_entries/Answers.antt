use native.Mathlib.Omega.{arith}
use Rattle.stations.specs.View.{stations_in}
use Rattle.form_tables.proofs.Queues.{entries_none, entries_more}
use Rattle.form_tables.proofs.gather_entries.Goals as goal

pub loop-t-init : goal.loop-t-init
loop-t-init c = (omega arith, entries_none (stations_in c.args.stations.now) c.args.m)

pub loop-t-preserved : goal.loop-t-preserved
loop-t-preserved c =
    let a = c.loop-t in
    let copy = c.copy_of-copy in
    let acks = c.acks_of-acks in
    let queue = c.queue_of-queue in
    let local = c.local_of-local in
    let u = c.union in
    let v = c.union-in-loop-t in
    let x = c.union-sets in
    let y = c.union-queued in
    let d = c.minus in
    let z = c.union-strays in (
      omega (arith, c.loop-t-test.true),
      entries_more (stations_in c.args.stations.now) c.args.m a.t a.sets a.queued a.strays copy.result acks.result queue.result local.result u.result v.result x.result y.result z.result d.result a.invariant.1
          copy.ensures acks.ensures queue.ensures local.ensures u.ensures v.ensures x.ensures y.ensures d.ensures z.ensures,
    )
