-- `event_carts::retire` meets its contract.
use mathlib.Core.Path.{refl}
use mathlib.Core.Bool.{false}
use Rattle.std.proofs.lemmas.Result.{err_from_is_err_and}
use Rattle.protocol.specs.Events.{retire}
use Rattle.view.specs.View.{lent}
use Rattle.event_answers.proofs.Meets.{meets_check}
use Rattle.event_answers.proofs.Broken.{broken_retire}
use Rattle.event_answers.proofs.Readies.{has_head, started_passes, unstarted_breaks}
use Rattle.event_carts.proofs.RetireMeets.{checks_asked, rooms_are, retire_asks, meets_retire}
use mathlib.Core.Bool.{not}
use mathlib.Core.Path.{ap}
use Rattle.event_carts.proofs.retire.Goals as goal

pub is_started-requires : goal.is_started-requires
is_started-requires c =
    let a = c.args in
    has_head (lent c.requires.0 a.stations.now a.carts.now a.messages.now a.lines.now a.texts.now a.store.now) c.requires.1

pub returns-then-not-is_started : goal.returns-then-not-is_started
returns-then-not-is_started c =
    let a = c.args in
    λ P R. broken_retire (lent P a.stations.now a.carts.now a.messages.now a.lines.now a.texts.now a.store.now) false (unstarted_breaks (lent P a.stations.now a.carts.now a.messages.now a.lines.now a.texts.now a.store.now) _ c.is_started.ensures (ap not c.if-not-is_started.true)) refl a.cart.0

pub check_retire-requires : goal.check_retire-requires
check_retire-requires c =
    let a = c.args in
    let P = c.requires.0 in
    checks_asked P a.stations.now a.carts.now a.messages.now a.lines.now a.texts.now a.store.now (started_passes (lent P a.stations.now a.carts.now a.messages.now a.lines.now a.texts.now a.store.now) _ c.is_started.ensures c.requires.1 (ap not c.if-not-is_started.false))

pub returns-in_err-here : goal.returns-in_err-here
returns-in_err-here c =
    let a = c.args in
    let p = err_from_is_err_and c.from_residual.result c.from_residual.ensures.1 in
    λ P R.
    let passes = (started_passes (lent P a.stations.now a.carts.now a.messages.now a.lines.now a.texts.now a.store.now) _ c.is_started.ensures R (ap not c.if-not-is_started.false)) in
    rw (p.1, p.2) (meets_check (lent P a.stations.now a.carts.now a.messages.now a.lines.now a.texts.now a.store.now) (retire a.cart.0) _ passes (c.in_err-here.ensures.refusal P a.lines.now a.texts.now a.store.now (rooms_are P a.stations.now a.carts.now a.messages.now a.lines.now a.texts.now a.store.now passes)))

pub on_retire-effect-requires : goal.on_retire-effect-requires
on_retire-effect-requires c =
    let a = c.args in
    let P = c.requires.0 in
    let passes = (started_passes (lent P a.stations.now a.carts.now a.messages.now a.lines.now a.texts.now a.store.now) _ c.is_started.ensures c.requires.1 (ap not c.if-not-is_started.false)) in
    retire_asks P a.stations.now a.carts.now a.messages.now a.lines.now a.texts.now a.store.now passes a.cart.0 ((c.in_ok-here.ensures.refusal P a.lines.now a.texts.now a.store.now (rooms_are P a.stations.now a.carts.now a.messages.now a.lines.now a.texts.now a.store.now passes))) _ c.in_ok-here.ensures.here

pub returns : goal.returns
returns c =
    let a = c.args in
    let gone = c.on_retire-effect in
    λ P R.
    let passes = (started_passes (lent P a.stations.now a.carts.now a.messages.now a.lines.now a.texts.now a.store.now) _ c.is_started.ensures R (ap not c.if-not-is_started.false)) in
    meets_retire P a.stations.now a.carts.now a.messages.now a.lines.now a.texts.now a.store.now passes a.cart.0 ((c.in_ok-here.ensures.refusal P a.lines.now a.texts.now a.store.now (rooms_are P a.stations.now a.carts.now a.messages.now a.lines.now a.texts.now a.store.now passes))) _ c.in_ok-here.ensures.here _ _ _ gone.ensures.retired gone.ensures.value
