-- `event_radio::radio_into` meets its contract.
use Rattle.view.specs.View.{lent}
use Rattle.std.proofs.lemmas.Result.{err_from_is_err_and}
use Rattle.event_answers.proofs.Delivers.{delivers_refused}
use Rattle.event_radio.proofs.Delivery.{copy_asks, hands_text}
use Rattle.event_radio.proofs.radio_into.Goals as goal

pub radio-requires : goal.radio-requires
radio-requires c = c.requires

pub returns-in_err-handed : goal.returns-in_err-handed
returns-in_err-handed c =
    let a = c.args in
    let p = err_from_is_err_and c.from_residual.result c.from_residual.ensures.1 in
    λ P R. rw (p.1, p.2) (delivers_refused (lent P a.stations.now a.carts.now a.messages.now a.lines.now a.texts.now a.store.now) _ a.station.0 a.cart.0 a.buffer.now _ (c.in_err-handed.ensures.met_by_each P R))

pub copy_text-requires : goal.copy_text-requires
copy_text-requires c =
    let a = c.args in
    copy_asks a.messages.now a.texts.now a.store.now c.in_ok-handed.handed a.buffer.now c.in_ok-handed.ensures.lies

pub returns : goal.returns
returns c =
    let a = c.args in
    λ P R. hands_text a.messages.now a.texts.now a.store.now c.in_ok-handed.handed a.buffer.now c.in_ok-handed.ensures.lies
    (lent P a.stations.now a.carts.now a.messages.now a.lines.now a.texts.now a.store.now) _ a.station.0 a.cart.0 (c.in_ok-handed.ensures.met_by_each P R) _ c.copy_text.ensures.buffer_after
