-- `catchup::enqueue_for` meets its contract.
use native.Mathlib.Omega.{arith}
use Rattle.stations.specs.View.{stations_in}
use Rattle.catchup.proofs.QueueLaws.{one_queued}
use Rattle.catchup.proofs.enqueue_for.Goals as goal

pub queue_of-requires : goal.queue_of-requires
queue_of-requires c = let p = c.requires in (p.0, omega (arith, p.1, p.3))

pub put_queue-requires : goal.put_queue-requires
put_queue-requires c = let p = c.requires in (p.0, omega (arith, p.1, p.3))

pub place_of-requires : goal.place_of-requires
place_of-requires c =
    let p = c.requires in
    (omega (arith, p.0, c.put_queue.ensures.1.1), p.1, p.3)

pub returns : goal.returns
returns c =
    let a = c.args in
    let q = c.queue_of in
    let k = c.with_member-carts in
    let p = c.put_queue in
    record {
      leaves = (one_queued (stations_in a.stations.now) a.station.0 a.cart.0 a.m q.result k.result q.ensures k.ensures p.ensures.0, p.ensures.1);
      value = c.place_of.ensures;
    }
