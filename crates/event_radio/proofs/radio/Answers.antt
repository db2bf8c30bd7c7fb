-- `event_radio::radio` meets its contract.
use mathlib.Core.Bool.{false, not}
use mathlib.Core.Path.{refl, ap}
use Rattle.std.proofs.lemmas.Result.{err_from_is_err_and}
use Rattle.view.specs.View.{lent}
use Rattle.event_answers.proofs.Meets.{checks_ready}
use Rattle.event_answers.proofs.Broken.{broken_radio}
use Rattle.event_answers.proofs.Readies.{has_head, started_passes, unstarted_breaks}
use Rattle.event_radio.proofs.RadioMeets.{meets_elsewhere, head_asks, served_asks, meets_unserved, has_room, over_asks, text_lies, in_a_room, meets_radio}
use Rattle.event_radio.proofs.radio.Goals as goal

pub is_started-requires : goal.is_started-requires
is_started-requires c =
    let a = c.args in
    let P = c.requires.0 in
    has_head (lent P a.stations.now a.carts.now a.messages.now a.lines.now a.texts.now a.store.now) c.requires.1

pub returns-then-not-is_started-clause-met_by_each : goal.returns-then-not-is_started-clause-met_by_each
returns-then-not-is_started-clause-met_by_each c =
    let a = c.args in
    λ P R. broken_radio (lent P a.stations.now a.carts.now a.messages.now a.lines.now a.texts.now a.store.now) false (unstarted_breaks (lent P a.stations.now a.carts.now a.messages.now a.lines.now a.texts.now a.store.now) _ c.is_started.ensures (ap not c.if-not-is_started.true)) refl a.station.0 a.cart.0 a.buffer

pub check_here-requires : goal.check_here-requires
check_here-requires c =
    let a = c.args in
    let P = c.requires.0 in
    let passes = started_passes (lent P a.stations.now a.carts.now a.messages.now a.lines.now a.texts.now a.store.now) _ c.is_started.ensures c.requires.1 (ap not c.if-not-is_started.false) in
    checks_ready (lent P a.stations.now a.carts.now a.messages.now a.lines.now a.texts.now a.store.now) passes

pub returns-in_err-check_here-clause-met_by_each : goal.returns-in_err-check_here-clause-met_by_each
returns-in_err-check_here-clause-met_by_each c =
    let a = c.args in
    let p = err_from_is_err_and c.from_residual.result c.from_residual.ensures.1 in
    λ P R.
    let passes = started_passes (lent P a.stations.now a.carts.now a.messages.now a.lines.now a.texts.now a.store.now) _ c.is_started.ensures R (ap not c.if-not-is_started.false) in
    rw (p.1, p.2) (meets_elsewhere P a.stations.now a.carts.now a.messages.now a.lines.now a.texts.now a.store.now a.station.0 a.cart.0 a.buffer passes _ c.in_err-check_here.ensures)

pub head-head-requires : goal.head-head-requires
head-head-requires c =
    let a = c.args in
    let P = c.requires.0 in
    let passes = started_passes (lent P a.stations.now a.carts.now a.messages.now a.lines.now a.texts.now a.store.now) _ c.is_started.ensures c.requires.1 (ap not c.if-not-is_started.false) in
    head_asks P a.stations.now a.carts.now a.messages.now a.lines.now a.texts.now a.store.now a.station.0 a.cart.0 a.buffer passes c.in_ok-check_here.ensures

pub check_served-requires : goal.check_served-requires
check_served-requires c =
    let a = c.args in
    let P = c.requires.0 in
    let passes = started_passes (lent P a.stations.now a.carts.now a.messages.now a.lines.now a.texts.now a.store.now) _ c.is_started.ensures c.requires.1 (ap not c.if-not-is_started.false) in
    served_asks P a.stations.now a.carts.now a.messages.now a.lines.now a.texts.now a.store.now a.station.0 a.cart.0 a.buffer passes c.in_ok-check_here.ensures _ c.head-head.ensures

pub returns-in_err-m-clause-met_by_each : goal.returns-in_err-m-clause-met_by_each
returns-in_err-m-clause-met_by_each c =
    let a = c.args in
    let p = err_from_is_err_and c.from_residual-in_err-m.result c.from_residual-in_err-m.ensures.1 in
    λ P R.
    let passes = started_passes (lent P a.stations.now a.carts.now a.messages.now a.lines.now a.texts.now a.store.now) _ c.is_started.ensures R (ap not c.if-not-is_started.false) in
    rw (p.1, p.2) (meets_unserved P a.stations.now a.carts.now a.messages.now a.lines.now a.texts.now a.store.now a.station.0 a.cart.0 a.buffer passes c.in_ok-check_here.ensures _ c.head-head.ensures _ c.in_err-m.ensures.refusal)

pub length_of-size-requires : goal.length_of-size-requires
length_of-size-requires c =
    let a = c.args in
    let P = c.requires.0 in
    let passes = started_passes (lent P a.stations.now a.carts.now a.messages.now a.lines.now a.texts.now a.store.now) _ c.is_started.ensures c.requires.1 (ap not c.if-not-is_started.false) in
    has_room P a.stations.now a.carts.now a.messages.now a.lines.now a.texts.now a.store.now a.station.0 a.cart.0 a.buffer passes c.in_ok-check_here.ensures _ c.head-head.ensures c.in_ok-m.m c.in_ok-m.ensures.room c.in_ok-m.ensures.refusal

pub initiator_of-initiator-requires : goal.initiator_of-initiator-requires
initiator_of-initiator-requires c =
    let a = c.args in
    let P = c.requires.0 in
    let passes = started_passes (lent P a.stations.now a.carts.now a.messages.now a.lines.now a.texts.now a.store.now) _ c.is_started.ensures c.requires.1 (ap not c.if-not-is_started.false) in
    has_room P a.stations.now a.carts.now a.messages.now a.lines.now a.texts.now a.store.now a.station.0 a.cart.0 a.buffer passes c.in_ok-check_here.ensures _ c.head-head.ensures c.in_ok-m.m c.in_ok-m.ensures.room c.in_ok-m.ensures.refusal

pub number_of-n-requires : goal.number_of-n-requires
number_of-n-requires c =
    let a = c.args in
    let P = c.requires.0 in
    let passes = started_passes (lent P a.stations.now a.carts.now a.messages.now a.lines.now a.texts.now a.store.now) _ c.is_started.ensures c.requires.1 (ap not c.if-not-is_started.false) in
    has_room P a.stations.now a.carts.now a.messages.now a.lines.now a.texts.now a.store.now a.station.0 a.cart.0 a.buffer passes c.in_ok-check_here.ensures _ c.head-head.ensures c.in_ok-m.m c.in_ok-m.ensures.room c.in_ok-m.ensures.refusal

pub hand_over-effect-requires : goal.hand_over-effect-requires
hand_over-effect-requires c =
    let a = c.args in
    let P = c.requires.0 in
    let passes = started_passes (lent P a.stations.now a.carts.now a.messages.now a.lines.now a.texts.now a.store.now) _ c.is_started.ensures c.requires.1 (ap not c.if-not-is_started.false) in
    let whole = over_asks P a.stations.now a.carts.now a.messages.now a.lines.now a.texts.now a.store.now a.station.0 a.cart.0 a.buffer passes c.in_ok-check_here.ensures _ c.head-head.ensures c.in_ok-m.m c.in_ok-m.ensures.room c.in_ok-m.ensures.refusal _ _ c.initiator_of-initiator.ensures c.number_of-n.ensures in
    record { has_station = whole.0; has_row = whole.1.0; by_index = whole.1.1.0; lines_value = whole.1.1.1 }

pub returns : goal.returns
returns c =
    let a = c.args in
    let P = c.requires.0 in
    let passes = started_passes (lent P a.stations.now a.carts.now a.messages.now a.lines.now a.texts.now a.store.now) _ c.is_started.ensures c.requires.1 (ap not c.if-not-is_started.false) in
    let lies = text_lies P a.stations.now a.carts.now a.messages.now a.lines.now a.texts.now a.store.now a.station.0 a.cart.0 a.buffer passes c.in_ok-check_here.ensures _ c.head-head.ensures c.in_ok-m.m c.in_ok-m.ensures.room c.in_ok-m.ensures.refusal _ _ c.initiator_of-initiator.ensures c.number_of-n.ensures _ c.length_of-size.ensures in
    let room = in_a_room P a.stations.now a.carts.now a.messages.now a.lines.now a.texts.now a.store.now a.station.0 a.cart.0 a.buffer passes c.in_ok-check_here.ensures _ c.head-head.ensures c.in_ok-m.m c.in_ok-m.ensures.room c.in_ok-m.ensures.refusal _ _ c.initiator_of-initiator.ensures c.number_of-n.ensures _ c.length_of-size.ensures in
    record {
      met_by_each = λ P R. meets_radio P a.stations.now a.carts.now a.messages.now a.lines.now a.texts.now a.store.now a.station.0 a.cart.0 a.buffer (started_passes (lent P a.stations.now a.carts.now a.messages.now a.lines.now a.texts.now a.store.now) _ c.is_started.ensures R (ap not c.if-not-is_started.false)) c.in_ok-check_here.ensures _ c.head-head.ensures c.in_ok-m.m c.in_ok-m.ensures.room c.in_ok-m.ensures.refusal _ _ c.initiator_of-initiator.ensures c.number_of-n.ensures _ c.length_of-size.ensures _ _ _ _ c.hand_over-effect.ensures;
      lies = record { room = room; most = lies.0; fits = lies.1; parts = lies.2; held = lies.3; size = lies.4 };
    }
