-- `wired_records::store` meets its contract.
use Rattle.wired_records.proofs.Stores.{stores}
use Rattle.wired_records.proofs.store.Goals as goal

pub returns : goal.returns
returns c =
    let a = c.args in
    let e = c.expected_of-expected in
    let x = c.put_copy in
    let y = c.put_queue in
    let z = c.put_expected in
    stores a.stations.now x.new.stations y.new.stations z.new.stations a.m a.initiator.0 a.to.0 a.copy a.queue e.result e.ensures x.ensures y.ensures z.ensures
