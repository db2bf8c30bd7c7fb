-- `event_carts::enter` meets its contract.
use mathlib.Core.Path.{refl}
use mathlib.Core.Bool.{false}
use Rattle.std.proofs.lemmas.Result.{err_from_is_err_and}
use Rattle.protocol.specs.Events.{enter}
use Rattle.view.specs.View.{lent}
use Rattle.event_answers.proofs.Meets.{checks_ready, meets_check}
use Rattle.event_answers.proofs.Broken.{broken_enter}
use Rattle.event_answers.proofs.Readies.{has_head, started_passes, unstarted_breaks}
use Rattle.event_carts.proofs.EnterMeets.{enter_asks, meets_enter}
use mathlib.Core.Bool.{not}
use mathlib.Core.Path.{ap}
use Rattle.event_carts.proofs.enter.Goals as goal

pub is_started-requires : goal.is_started-requires
is_started-requires c =
    let a = c.args in
    has_head (lent c.requires.0 a.stations.now a.carts.now a.messages.now a.lines.now a.texts.now a.store.now) c.requires.1

pub returns-then-not-is_started : goal.returns-then-not-is_started
returns-then-not-is_started c =
    let a = c.args in
    λ P R. broken_enter (lent P a.stations.now a.carts.now a.messages.now a.lines.now a.texts.now a.store.now) false (unstarted_breaks (lent P a.stations.now a.carts.now a.messages.now a.lines.now a.texts.now a.store.now) _ c.is_started.ensures (ap not c.if-not-is_started.true)) refl a.station.0 a.cart.0

pub check_enter-requires : goal.check_enter-requires
check_enter-requires c =
    let a = c.args in
    let P = c.requires.0 in
    checks_ready (lent P a.stations.now a.carts.now a.messages.now a.lines.now a.texts.now a.store.now) (started_passes (lent P a.stations.now a.carts.now a.messages.now a.lines.now a.texts.now a.store.now) _ c.is_started.ensures c.requires.1 (ap not c.if-not-is_started.false))

pub returns-in_err-check_enter : goal.returns-in_err-check_enter
returns-in_err-check_enter c =
    let a = c.args in
    let p = err_from_is_err_and c.from_residual.result c.from_residual.ensures.1 in
    λ P R. rw (p.1, p.2) (meets_check (lent P a.stations.now a.carts.now a.messages.now a.lines.now a.texts.now a.store.now) (enter a.station.0 a.cart.0) _ (started_passes (lent P a.stations.now a.carts.now a.messages.now a.lines.now a.texts.now a.store.now) _ c.is_started.ensures R (ap not c.if-not-is_started.false)) (c.in_err-check_enter.ensures P a.messages.now a.lines.now a.texts.now a.store.now))

pub on_enter-effect-requires : goal.on_enter-effect-requires
on_enter-effect-requires c =
    let a = c.args in
    let P = c.requires.0 in
    let whole = enter_asks P a.stations.now a.carts.now a.messages.now a.lines.now a.texts.now a.store.now a.station.0 a.cart.0 (started_passes (lent P a.stations.now a.carts.now a.messages.now a.lines.now a.texts.now a.store.now) _ c.is_started.ensures c.requires.1 (ap not c.if-not-is_started.false)) (c.in_ok-check_enter.ensures P a.messages.now a.lines.now a.texts.now a.store.now) in
    record { has_station = whole.0; by_index = whole.1.0; by_index_2 = whole.1.1 }

pub returns : goal.returns
returns c =
    let a = c.args in
    λ P R. meets_enter P a.stations.now a.carts.now a.messages.now a.lines.now a.texts.now a.store.now a.station.0 a.cart.0 (started_passes (lent P a.stations.now a.carts.now a.messages.now a.lines.now a.texts.now a.store.now) _ c.is_started.ensures R (ap not c.if-not-is_started.false)) (c.in_ok-check_enter.ensures P a.messages.now a.lines.now a.texts.now a.store.now) _ _ _ c.on_enter-effect.ensures.entered c.on_enter-effect.ensures.value
