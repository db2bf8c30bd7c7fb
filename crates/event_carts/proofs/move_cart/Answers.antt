-- `event_carts::move_cart` meets its contract.
use mathlib.Core.Path.{refl}
use mathlib.Core.Bool.{false}
use Rattle.std.proofs.lemmas.Result.{err_from_is_err_and}
use Rattle.protocol.specs.Events.{move}
use Rattle.view.specs.View.{lent}
use Rattle.event_answers.proofs.Meets.{checks_ready, meets_check}
use Rattle.event_answers.proofs.Broken.{broken_move}
use Rattle.event_answers.proofs.Readies.{has_head, started_passes, unstarted_breaks}
use Rattle.event_carts.proofs.MoveMeets.{move_asks, meets_move}
use mathlib.Core.Bool.{not}
use mathlib.Core.Path.{ap}
use Rattle.event_carts.proofs.move_cart.Goals as goal

pub is_started-requires : goal.is_started-requires
is_started-requires c =
    let a = c.args in
    has_head (lent c.requires.0 a.stations.now a.carts.now a.messages.now a.lines.now a.texts.now a.store.now) c.requires.1

pub returns-then-not-is_started : goal.returns-then-not-is_started
returns-then-not-is_started c =
    let a = c.args in
    λ P R. broken_move (lent P a.stations.now a.carts.now a.messages.now a.lines.now a.texts.now a.store.now) false (unstarted_breaks (lent P a.stations.now a.carts.now a.messages.now a.lines.now a.texts.now a.store.now) _ c.is_started.ensures (ap not c.if-not-is_started.true)) refl a.cart.0 a.to.0

pub check_move-requires : goal.check_move-requires
check_move-requires c =
    let a = c.args in
    let P = c.requires.0 in
    checks_ready (lent P a.stations.now a.carts.now a.messages.now a.lines.now a.texts.now a.store.now) (started_passes (lent P a.stations.now a.carts.now a.messages.now a.lines.now a.texts.now a.store.now) _ c.is_started.ensures c.requires.1 (ap not c.if-not-is_started.false))

pub returns-in_err-old : goal.returns-in_err-old
returns-in_err-old c =
    let a = c.args in
    let p = err_from_is_err_and c.from_residual.result c.from_residual.ensures.1 in
    λ P R. rw (p.1, p.2) (meets_check (lent P a.stations.now a.carts.now a.messages.now a.lines.now a.texts.now a.store.now) (move a.cart.0 a.to.0) _ (started_passes (lent P a.stations.now a.carts.now a.messages.now a.lines.now a.texts.now a.store.now) _ c.is_started.ensures R (ap not c.if-not-is_started.false)) (c.in_err-old.ensures.refusal P a.messages.now a.lines.now a.texts.now a.store.now))

pub on_move-effect-requires : goal.on_move-effect-requires
on_move-effect-requires c =
    let a = c.args in
    let P = c.requires.0 in
    let whole = move_asks P a.stations.now a.carts.now a.messages.now a.lines.now a.texts.now a.store.now a.cart.0 a.to.0 (started_passes (lent P a.stations.now a.carts.now a.messages.now a.lines.now a.texts.now a.store.now) _ c.is_started.ensures c.requires.1 (ap not c.if-not-is_started.false)) (c.in_ok-old.ensures.refusal P a.messages.now a.lines.now a.texts.now a.store.now) _ c.in_ok-old.ensures.here in
    record { has_row = whole.0; lines_value = whole.1 }

pub returns : goal.returns
returns c =
    let a = c.args in
    λ P R. meets_move P a.stations.now a.carts.now a.messages.now a.lines.now a.texts.now a.store.now a.cart.0 a.to.0 (started_passes (lent P a.stations.now a.carts.now a.messages.now a.lines.now a.texts.now a.store.now) _ c.is_started.ensures R (ap not c.if-not-is_started.false)) (c.in_ok-old.ensures.refusal P a.messages.now a.lines.now a.texts.now a.store.now) _ c.in_ok-old.ensures.here _ _ _ c.on_move-effect.ensures.moved c.on_move-effect.ensures.value
