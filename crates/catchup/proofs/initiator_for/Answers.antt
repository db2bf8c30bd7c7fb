-- `catchup::initiator_for` meets its contract.
use Rattle.catchup.proofs.NamingLaws.{named_by_lem, by_nobody}
use Rattle.stations.specs.View.{stations_in}
use Rattle.messages.specs.View.{rooms_in}
use Rattle.catchup.proofs.initiator_for.Goals as goal

pub returns-then-has : goal.returns-then-has
returns-then-has c =
    let a = c.args in
    named_by_lem (stations_in a.stations.now) (rooms_in a.messages.now) a.station.0 a.cart.0 a.m _ _ _ c.copy_of.ensures c.has.ensures c.if-has.true
    c.initiator_of.ensures

pub returns : goal.returns
returns c =
    let a = c.args in
    by_nobody (stations_in a.stations.now) (rooms_in a.messages.now) a.station.0 a.cart.0 a.m _ _ c.copy_of.ensures c.has.ensures c.if-has.false
