-- `event_carts::flag_cart` meets its contract.
use mathlib.Core.Path.{refl}
use mathlib.Core.Bool.{false}
use Rattle.std.proofs.lemmas.Result.{err_from_is_err_and}
use Rattle.protocol.specs.Events.{flag}
use Rattle.view.specs.View.{lent}
use Rattle.event_answers.proofs.Meets.{checks_ready, meets_check}
use Rattle.event_answers.proofs.Broken.{broken_flag}
use Rattle.event_answers.proofs.Readies.{has_head, started_passes, unstarted_breaks}
use Rattle.event_carts.proofs.FlagMeets.{has_row, meets_flag}
use mathlib.Core.Bool.{not}
use mathlib.Core.Path.{ap}
use Rattle.event_carts.proofs.flag_cart.Goals as goal

pub is_started-requires : goal.is_started-requires
is_started-requires c =
    let a = c.args in
    has_head (lent c.requires.0 a.stations.now a.carts.now a.messages.now a.lines.now a.texts.now a.store.now) c.requires.1

pub returns-then-not-is_started : goal.returns-then-not-is_started
returns-then-not-is_started c =
    let a = c.args in
    λ P R. broken_flag (lent P a.stations.now a.carts.now a.messages.now a.lines.now a.texts.now a.store.now) false (unstarted_breaks (lent P a.stations.now a.carts.now a.messages.now a.lines.now a.texts.now a.store.now) _ c.is_started.ensures (ap not c.if-not-is_started.true)) refl a.cart.0 a.steady

pub check_flag-requires : goal.check_flag-requires
check_flag-requires c =
    let a = c.args in
    let P = c.requires.0 in
    checks_ready (lent P a.stations.now a.carts.now a.messages.now a.lines.now a.texts.now a.store.now) (started_passes (lent P a.stations.now a.carts.now a.messages.now a.lines.now a.texts.now a.store.now) _ c.is_started.ensures c.requires.1 (ap not c.if-not-is_started.false))

pub returns-in_err-check_flag : goal.returns-in_err-check_flag
returns-in_err-check_flag c =
    let a = c.args in
    let p = err_from_is_err_and c.from_residual.result c.from_residual.ensures.1 in
    λ P R. rw (p.1, p.2) (meets_check (lent P a.stations.now a.carts.now a.messages.now a.lines.now a.texts.now a.store.now) (flag a.cart.0 a.steady) _ (started_passes (lent P a.stations.now a.carts.now a.messages.now a.lines.now a.texts.now a.store.now) _ c.is_started.ensures R (ap not c.if-not-is_started.false)) (c.in_err-check_flag.ensures P a.messages.now a.lines.now a.texts.now a.store.now a.steady))

pub on_flag-effect-requires : goal.on_flag-effect-requires
on_flag-effect-requires c =
    let a = c.args in
    let P = c.requires.0 in
    has_row P a.stations.now a.carts.now a.messages.now a.lines.now a.texts.now a.store.now a.cart.0 a.steady (started_passes (lent P a.stations.now a.carts.now a.messages.now a.lines.now a.texts.now a.store.now) _ c.is_started.ensures c.requires.1 (ap not c.if-not-is_started.false)) (c.in_ok-check_flag.ensures P a.messages.now a.lines.now a.texts.now a.store.now a.steady)

pub returns : goal.returns
returns c =
    let a = c.args in
    λ P R. meets_flag P a.stations.now a.carts.now a.messages.now a.lines.now a.texts.now a.store.now a.cart.0 a.steady (started_passes (lent P a.stations.now a.carts.now a.messages.now a.lines.now a.texts.now a.store.now) _ c.is_started.ensures R (ap not c.if-not-is_started.false)) (c.in_ok-check_flag.ensures P a.messages.now a.lines.now a.texts.now a.store.now a.steady) _ _ c.on_flag-effect.ensures.flagged c.on_flag-effect.ensures.value
