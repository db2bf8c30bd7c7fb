-- `event_wire::handle` meets its contract.
use mathlib.Core.Path.{sym, ◌∙◌}
use borrow.Author.Tests.{eqb-true, eqb-false}
use Rattle.event_wire.proofs.WireMeets.{has_head, multicast_asks, meets_multicast, ack_list_asks, meets_ack_list, delete_asks, meets_delete, deregister_asks, meets_deregister, register_asks, row_asks, meets_register}
use Rattle.event_wire.proofs.handle.Goals as goal

pub station_count-n-requires : goal.station_count-n-requires
station_count-n-requires c =
    let a = c.args in
    let p = c.requires in
    has_head p.product a.stations.now a.carts.now a.messages.now p.lines a.lines.now p.texts p.store a.from.0 a.to.0 a.said p.taken

pub on_ack_list-effect-requires : goal.on_ack_list-effect-requires
on_ack_list-effect-requires c =
    let a = c.args in
    let p = c.requires in
    let whole = ack_list_asks p.product a.stations.now a.carts.now a.messages.now p.lines a.lines.now p.texts p.store a.from.0 a.to.0 a.said p.taken (eqb-true _ _ (sym c.is_of.ensures ∙ c.if-is_of.true)) _ c.station_count-n.ensures in
    record { has_room = whole.0; initiator_lt_initiators = whole.1.0; n_bound = whole.1.1 }

pub returns-then-is_of : goal.returns-then-is_of
returns-then-is_of c =
    let a = c.args in
    λ P W T O off. meets_ack_list P a.stations.now a.carts.now a.messages.now W a.lines.now T O a.from.0 a.to.0 a.said off (eqb-true _ _ (sym c.is_of.ensures ∙ c.if-is_of.true)) _ _ _ _ _ c.number_of.ensures c.station_count-n.ensures c.on_ack_list-effect.ensures.acknowledged c.on_ack_list-effect.ensures.value

pub on_delete-effect-requires : goal.on_delete-effect-requires
on_delete-effect-requires c =
    let a = c.args in
    let p = c.requires in
    delete_asks p.product a.stations.now a.carts.now a.messages.now p.lines a.lines.now p.texts p.store a.from.0 a.to.0 a.said p.taken (eqb-true _ _ (sym c.is_of-2.ensures ∙ c.if-is_of-2.true))

pub returns-then-is_of-2 : goal.returns-then-is_of-2
returns-then-is_of-2 c =
    let a = c.args in
    λ P W T O off. meets_delete P a.stations.now a.carts.now a.messages.now W a.lines.now T O a.from.0 a.to.0 a.said off (eqb-true _ _ (sym c.is_of-2.ensures ∙ c.if-is_of-2.true)) _ _ _ c.number_of.ensures c.on_delete-effect.ensures.deleted c.on_delete-effect.ensures.value

pub on_multicast-effect-requires : goal.on_multicast-effect-requires
on_multicast-effect-requires c =
    let a = c.args in
    let p = c.requires in
    let whole = multicast_asks p.product a.stations.now a.carts.now a.messages.now p.lines a.lines.now p.texts p.store a.from.0 a.to.0 a.said p.taken (eqb-true _ _ (sym c.is_of-3.ensures ∙ c.if-is_of-3.true)) in
    record { has_station = whole.0; by_index = whole.1 }

pub returns-then-is_of-3 : goal.returns-then-is_of-3
returns-then-is_of-3 c =
    let a = c.args in
    λ P W T O off. meets_multicast P a.stations.now a.carts.now a.messages.now W a.lines.now T O a.from.0 a.to.0 a.said off (eqb-true _ _ (sym c.is_of-3.ensures ∙ c.if-is_of-3.true)) _ _ _ _ c.number_of.ensures c.on_multicast-effect.ensures.buffered c.on_multicast-effect.ensures.value

pub on_deregister-effect-requires : goal.on_deregister-effect-requires
on_deregister-effect-requires c =
    let a = c.args in
    let p = c.requires in
    let whole = deregister_asks p.product a.stations.now a.carts.now a.messages.now p.lines a.lines.now p.texts p.store a.from.0 a.to.0 a.said p.taken _ c.index_of.ensures (eqb-true _ _ (sym c.is_of-4.ensures ∙ c.if-is_of-4.true)) in
    record { has_station = whole.0; lines_value = whole.1 }

pub returns-then-is_of-4 : goal.returns-then-is_of-4
returns-then-is_of-4 c =
    let a = c.args in
    let gone = c.on_deregister-effect.ensures in
    λ P W T O off. meets_deregister P a.stations.now a.carts.now a.messages.now W a.lines.now T O a.from.0 a.to.0 a.said off _ c.index_of.ensures (eqb-true _ _ (sym c.is_of-4.ensures ∙ c.if-is_of-4.true)) _ _ _ _ gone.left gone.value

pub register_of-row-requires : goal.register_of-row-requires
register_of-row-requires c =
    let a = c.args in
    let p = c.requires in
    row_asks p.product a.stations.now a.carts.now a.messages.now p.lines a.lines.now p.texts p.store a.from.0 a.to.0 a.said p.taken _ c.index_of.ensures (eqb-false _ _ (sym c.is_of-3.ensures ∙ c.if-is_of-3.false)) (eqb-false _ _ (sym c.is_of.ensures ∙ c.if-is_of.false)) (eqb-false _ _ (sym c.is_of-2.ensures ∙ c.if-is_of-2.false)) (eqb-false _ _ (sym c.is_of-4.ensures ∙ c.if-is_of-4.false))

pub on_register-effect-requires : goal.on_register-effect-requires
on_register-effect-requires c =
    let a = c.args in
    let p = c.requires in
    let whole = register_asks p.product a.stations.now a.carts.now a.messages.now p.lines a.lines.now p.texts p.store a.from.0 a.to.0 a.said p.taken _ c.index_of.ensures (eqb-false _ _ (sym c.is_of-3.ensures ∙ c.if-is_of-3.false)) (eqb-false _ _ (sym c.is_of.ensures ∙ c.if-is_of.false)) (eqb-false _ _ (sym c.is_of-2.ensures ∙ c.if-is_of-2.false)) (eqb-false _ _ (sym c.is_of-4.ensures ∙ c.if-is_of-4.false)) in
    record { has_station = whole.0; by_index = whole.1.0; by_index_2 = whole.1.1 }

pub returns : goal.returns
returns c =
    let a = c.args in
    λ P W T O off. meets_register P a.stations.now a.carts.now a.messages.now W a.lines.now T O a.from.0 a.to.0 a.said off _ c.index_of.ensures (eqb-false _ _ (sym c.is_of-3.ensures ∙ c.if-is_of-3.false)) (eqb-false _ _ (sym c.is_of.ensures ∙ c.if-is_of.false)) (eqb-false _ _ (sym c.is_of-2.ensures ∙ c.if-is_of-2.false)) (eqb-false _ _ (sym c.is_of-4.ensures ∙ c.if-is_of-4.false)) _ _ _ _ c.register_of-row.ensures c.on_register-effect.ensures.arrived c.on_register-effect.ensures.value
