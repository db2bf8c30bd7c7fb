-- `wired_records::multicast_by_row` meets its contract.
use Prim.Native.Nat.{ℕ}
use Rattle.view.specs.Records.{index_of, number_of}
use Rattle.reports.proofs.Effects.{only_queues}
use Rattle.wired_records.specs.Handled.{Buffered}
use Rattle.wired_records.proofs.Stores.{buffers}
use Rattle.wired_records.proofs.multicast_by_row.Goals as goal

pub returns : goal.returns
returns c =
    let a = c.args in
    let k = c.index_of-m in
    let q = c.number_of-number in
    let d = c.named_of-named in
    let e = c.sort_local-sorted in
    let o = c.minus-over in
    let z = c.minus-queued in
    let y = c.minus in
    let t = c.store in
    let x = c.place_of_new-place in
    let whole = only_queues (λ (p w : ℕ). Buffered a.stations.now t.new.stations a.carts.now e.new.carts a.messages.now a.local (index_of a.said.0) (number_of a.said.0) a.initiator.0 a.to.0 p w)
    c.queueing.result e.result.passed x.result
    (buffers a.stations.now t.new.stations a.carts.now e.new.carts a.messages.now a.local (index_of a.said.0) (number_of a.said.0) a.initiator.0 a.to.0
    k.result q.result d.result e.result.due e.result.past o.result y.result z.result e.result.passed x.result
    k.ensures q.ensures d.ensures e.ensures.due_value e.ensures.past_value e.ensures.raised e.ensures.passed_value
    o.ensures y.ensures z.ensures t.ensures x.ensures)
    c.queueing.ensures in
    record { buffered = whole.0; value = whole.1 }
