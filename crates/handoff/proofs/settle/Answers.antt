-- `handoff::settle` meets its contract.
use Rattle.stations.specs.View.{stations_in}
use Rattle.handoff.proofs.RiseLaws.{settles}
use Rattle.handoff.proofs.settle.Goals as goal

pub returns : goal.returns
returns c =
    let a = c.args in
    let l = c.local_of in
    let k = c.with_member-local in
    let p = c.put_local in
    (settles (stations_in a.stations.now) a.station.0 a.cart.0 l.result k.result l.ensures k.ensures p.ensures.0, p.ensures.1)
