-- `event_wire::wire` meets its contract.
use mathlib.Core.Path.{refl}
use mathlib.Core.Bool.{false}
use Rattle.std.proofs.lemmas.Result.{err_from_is_err_and}
use Rattle.protocol.specs.Events.{wire}
use Rattle.view.specs.View.{lent}
use Rattle.event_answers.proofs.Meets.{meets_check}
use Rattle.event_answers.proofs.Broken.{broken_wire}
use Rattle.event_answers.proofs.Readies.{has_head, started_passes, unstarted_breaks}
use Rattle.event_wire.proofs.HeadTaken.{checks_asks, head_asks, taken_off_lem, is_off}
use mathlib.Core.Bool.{not}
use mathlib.Core.Path.{ap}
use Rattle.event_wire.proofs.wire.Goals as goal

pub is_started-requires : goal.is_started-requires
is_started-requires c =
    let a = c.args in
    has_head (lent c.requires.0 a.stations.now a.carts.now a.messages.now a.lines.now a.texts.now a.store.now) c.requires.1

pub returns-then-not-is_started : goal.returns-then-not-is_started
returns-then-not-is_started c =
    let a = c.args in
    λ P R. broken_wire (lent P a.stations.now a.carts.now a.messages.now a.lines.now a.texts.now a.store.now) false (unstarted_breaks (lent P a.stations.now a.carts.now a.messages.now a.lines.now a.texts.now a.store.now) _ c.is_started.ensures (ap not c.if-not-is_started.true)) refl a.from.0 a.to.0

pub check_wire-requires : goal.check_wire-requires
check_wire-requires c =
    let a = c.args in
    let P = c.requires.0 in
    let passes = (started_passes (lent P a.stations.now a.carts.now a.messages.now a.lines.now a.texts.now a.store.now) _ c.is_started.ensures c.requires.1 (ap not c.if-not-is_started.false)) in
    checks_asks P a.stations.now a.carts.now a.messages.now a.lines.now a.texts.now a.store.now a.from.0 a.to.0 passes

pub returns-in_err-check_wire : goal.returns-in_err-check_wire
returns-in_err-check_wire c =
    let a = c.args in
    let p = err_from_is_err_and c.from_residual.result c.from_residual.ensures.1 in
    λ P R. rw (p.1, p.2) (meets_check (lent P a.stations.now a.carts.now a.messages.now a.lines.now a.texts.now a.store.now) (wire a.from.0 a.to.0) _ (started_passes (lent P a.stations.now a.carts.now a.messages.now a.lines.now a.texts.now a.store.now) _ c.is_started.ensures R (ap not c.if-not-is_started.false)) (c.in_err-check_wire.ensures P a.carts.now a.messages.now a.texts.now a.store.now))

pub front-said-requires : goal.front-said-requires
front-said-requires c =
    let a = c.args in
    let P = c.requires.0 in
    let passes = (started_passes (lent P a.stations.now a.carts.now a.messages.now a.lines.now a.texts.now a.store.now) _ c.is_started.ensures c.requires.1 (ap not c.if-not-is_started.false)) in
    head_asks P a.stations.now a.carts.now a.messages.now a.lines.now a.texts.now a.store.now a.from.0 a.to.0 passes (c.in_ok-check_wire.ensures P a.carts.now a.messages.now a.texts.now a.store.now)

pub pop_front-requires : goal.pop_front-requires
pop_front-requires c =
    let a = c.args in
    let P = c.requires.0 in
    let passes = (started_passes (lent P a.stations.now a.carts.now a.messages.now a.lines.now a.texts.now a.store.now) _ c.is_started.ensures c.requires.1 (ap not c.if-not-is_started.false)) in
    head_asks P a.stations.now a.carts.now a.messages.now a.lines.now a.texts.now a.store.now a.from.0 a.to.0 passes (c.in_ok-check_wire.ensures P a.carts.now a.messages.now a.texts.now a.store.now)

pub handle-requires : goal.handle-requires
handle-requires c =
    let a = c.args in
    let P = c.requires.0 in
    let passes = (started_passes (lent P a.stations.now a.carts.now a.messages.now a.lines.now a.texts.now a.store.now) _ c.is_started.ensures c.requires.1 (ap not c.if-not-is_started.false)) in
    is_off P a.stations.now a.carts.now a.messages.now a.lines.now a.texts.now a.store.now a.from.0 a.to.0 passes (c.in_ok-check_wire.ensures P a.carts.now a.messages.now a.texts.now a.store.now) _ _ c.front-said.ensures c.pop_front.ensures

pub returns : goal.returns
returns c =
    let a = c.args in
    λ P R.
    c.handle.ensures P a.lines.now a.texts.now a.store.now
    (taken_off_lem P a.stations.now a.carts.now a.messages.now a.lines.now a.texts.now a.store.now a.from.0 a.to.0 (started_passes (lent P a.stations.now a.carts.now a.messages.now a.lines.now a.texts.now a.store.now) _ c.is_started.ensures R (ap not c.if-not-is_started.false)) (c.in_ok-check_wire.ensures P a.carts.now a.messages.now a.texts.now a.store.now) _ _ c.front-said.ensures c.pop_front.ensures)
