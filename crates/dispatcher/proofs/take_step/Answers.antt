-- `dispatcher::take_step` meets its contract.
use Rattle.view.specs.View.{lent}
use Rattle.dispatcher.proofs.StepLaws.{wire_ready, wire_comes, radio_ready, radio_comes}
use Rattle.dispatcher.proofs.take_step.Goals as goal

pub wire-answer-requires : goal.wire-answer-requires
wire-answer-requires c =
    let a = c.args in
    let P = c.requires.0.0 in
    (P, wire_ready (lent P a.stations.now a.carts.now a.messages.now a.lines.now a.texts.now a.store.now) a.step c.requires.0.1 c.in-Wire.from c.in-Wire.to c.in-Wire.is)

pub radio_into-answer-requires : goal.radio_into-answer-requires
radio_into-answer-requires c =
    let a = c.args in
    let P = c.requires.0.0 in
    (P, radio_ready (lent P a.stations.now a.carts.now a.messages.now a.lines.now a.texts.now a.store.now) a.step c.requires.0.1 c.in-Radio.station c.in-Radio.cart c.in-Radio.is)

pub returns-in-Wire : goal.returns-in-Wire
returns-in-Wire c =
    let a = c.args in
    λ P d.
    wire_comes (lent P a.stations.now a.carts.now a.messages.now a.lines.now a.texts.now a.store.now) a.step d c.in-Wire.from c.in-Wire.to c.in-Wire.is _ c.wire-answer.result
    (c.wire-answer.ensures P (wire_ready (lent P a.stations.now a.carts.now a.messages.now a.lines.now a.texts.now a.store.now) a.step d c.in-Wire.from c.in-Wire.to c.in-Wire.is))
    a.buffer.now _ c.records_of.ensures

pub returns-in-Radio : goal.returns-in-Radio
returns-in-Radio c =
    let a = c.args in
    λ P d.
    radio_comes (lent P a.stations.now a.carts.now a.messages.now a.lines.now a.texts.now a.store.now) a.step d c.in-Radio.station c.in-Radio.cart c.in-Radio.is _ c.radio_into-answer.result _ _
    (c.radio_into-answer.ensures P (radio_ready (lent P a.stations.now a.carts.now a.messages.now a.lines.now a.texts.now a.store.now) a.step d c.in-Radio.station c.in-Radio.cart c.in-Radio.is))
    c.requires.1 _ c.records_of-in-Radio.ensures
