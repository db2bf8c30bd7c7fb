-- `dispatcher::receiver_at` meets its contract.
use mathlib.Core.Path.{ap, ◌∙◌}
use Rattle.dispatcher.specs.Choice.{cart_in}
use Rattle.dispatcher.proofs.Choices.{head_asks, entry_asks, carts_asks, nobody_there, receiver_is}
use Rattle.dispatcher.proofs.receiver_at.Goals as goal

pub head-requires : goal.head-requires
head-requires c =
    let a = c.args in
    let f = c.requires.0 in
    head_asks f.product a.stations.now a.carts.now a.messages.now f.lines f.texts f.store f.passes a.station.0 c.requires.1

pub returns-in_err-m : goal.returns-in_err-m
returns-in_err-m c =
    let a = c.args in
    λ P W T O p empty. ap cart_in c.from_residual.ensures ∙ nobody_there P a.stations.now a.carts.now a.messages.now W T O p a.station.0 c.requires.1 _ c.head.ensures empty c.in_err-m.was

pub queue_of-requires : goal.queue_of-requires
queue_of-requires c =
    let a = c.args in
    let f = c.requires.0 in
    entry_asks f.product a.stations.now a.carts.now a.messages.now f.lines f.texts f.store f.passes a.station.0 c.requires.1 _ c.head.ensures c.in_ok-m.m (c.in_ok-m.was)

pub lowest_steady-requires : goal.lowest_steady-requires
lowest_steady-requires c =
    let a = c.args in
    let f = c.requires.0 in
    carts_asks f.product a.stations.now a.carts.now a.messages.now f.lines f.texts f.store f.passes a.station.0 c.requires.1 _ c.head.ensures c.in_ok-m.m (c.in_ok-m.was) _ c.queue_of.ensures

pub returns : goal.returns
returns c =
    let a = c.args in
    λ P W T O p empty. receiver_is P a.stations.now a.carts.now a.messages.now W T O p a.station.0 c.requires.1 _ c.head.ensures c.in_ok-m.m (c.in_ok-m.was) empty _ _ c.queue_of.ensures c.lowest_steady.ensures
