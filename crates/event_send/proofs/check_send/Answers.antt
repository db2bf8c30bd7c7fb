-- `event_send::check_send` meets its contract.
use mathlib.Core.Path.{◌∙◌}
use native.Mathlib.Omega.{arith}
use Rattle.std.proofs.lemmas.Result.{err_from_is_err_and}
use Rattle.protocol.specs.Floor.{limits_of}
use Rattle.view.specs.View.{lent, floor_in}
use Rattle.event_send.specs.Checks.{text_checks, room_checks, store_checks}
use Rattle.event_send.proofs.SendChecks.{at_first, at_second, at_third, behind, send_no_station, short_table, long_no_station, long_table}
use Rattle.event_send.proofs.check_send.Goals as goal

pub returns-then-station_count-station-clause-short : goal.returns-then-station_count-station-clause-short
returns-then-station_count-station-clause-short c =
    let a = c.args in
    λ P W T O numbers short.
    send_no_station P (floor_in (lent P a.stations.now a.carts.now a.messages.now W T O)) a.station.0 a.set a.text.now short
    (omega (arith, c.station_count.ensures, c.if-station_count-station.true))

pub returns-then-station_count-station-clause-long : goal.returns-then-station_count-station-clause-long
returns-then-station_count-station-clause-long c =
    let a = c.args in
    λ P W T O numbers whole above.
    long_no_station P a.bounds numbers a.stations.now a.carts.now a.messages.now W T O c.requires.laid.0 a.station.0 a.set a.text.now above c.requires.laid.3
    (omega (arith, c.station_count.ensures, c.if-station_count-station.true))

pub returns-in_err-check_set-clause-short : goal.returns-in_err-check_set-clause-short
returns-in_err-check_set-clause-short c =
    let a = c.args in
    let p = err_from_is_err_and c.from_residual.result c.from_residual.ensures.1 in
    λ P W T O numbers short.
    rw (p.1, p.2) (at_first _ (text_checks a.text.now) (room_checks (limits_of P) (floor_in (lent P a.stations.now a.carts.now a.messages.now W T O)) a.station.0) 0 _
    (short_table P (floor_in (lent P a.stations.now a.carts.now a.messages.now W T O)) a.station.0 a.set a.text.now short (omega (arith, c.station_count.ensures, c.if-station_count-station.false)))
    _ (c.in_err-check_set.ensures P a.messages.now W T O))

pub returns-in_err-check_set-clause-long : goal.returns-in_err-check_set-clause-long
returns-in_err-check_set-clause-long c =
    let a = c.args in
    let p = err_from_is_err_and c.from_residual.result c.from_residual.ensures.1 in
    λ P W T O numbers whole above.
    rw (p.1, p.2) (at_first _ (text_checks a.text.now) (room_checks (limits_of P) (floor_in (lent P a.stations.now a.carts.now a.messages.now W T O)) a.station.0) (store_checks a.bounds.held a.messages.now a.text.now) _
    (long_table P a.bounds numbers a.stations.now a.carts.now a.messages.now W T O c.requires.laid.0 a.station.0 a.set a.text.now above c.requires.laid.3 whole (omega (arith, c.station_count.ensures, c.if-station_count-station.false)))
    _ (c.in_err-check_set.ensures P a.messages.now W T O))

pub returns-in_err-check_text-clause-short : goal.returns-in_err-check_text-clause-short
returns-in_err-check_text-clause-short c =
    let a = c.args in
    let p = err_from_is_err_and c.from_residual-in_err-check_text.result c.from_residual-in_err-check_text.ensures.1 in
    λ P W T O numbers short.
    rw (p.1, p.2) (at_second _ (text_checks a.text.now) (room_checks (limits_of P) (floor_in (lent P a.stations.now a.carts.now a.messages.now W T O)) a.station.0) 0 _
    (short_table P (floor_in (lent P a.stations.now a.carts.now a.messages.now W T O)) a.station.0 a.set a.text.now short (omega (arith, c.station_count.ensures, c.if-station_count-station.false)))
    (c.in_ok-check_set.ensures P a.messages.now W T O) _ c.in_err-check_text.ensures)

pub returns-in_err-room-clause-short : goal.returns-in_err-room-clause-short
returns-in_err-room-clause-short c =
    let a = c.args in
    let p = err_from_is_err_and c.from_residual-in_err-room.result c.from_residual-in_err-room.ensures.1 in
    λ P W T O numbers short.
    rw (p.1, p.2) (at_third _ _ _ _ _
    (short_table P (floor_in (lent P a.stations.now a.carts.now a.messages.now W T O)) a.station.0 a.set a.text.now short (omega (arith, c.station_count.ensures, c.if-station_count-station.false)))
    (c.in_ok-check_set.ensures P a.messages.now W T O) c.in_ok-check_text.ensures _ (c.in_err-room.ensures.refusal P a.carts.now W T O numbers))

pub returns-in_err-room-clause-long : goal.returns-in_err-room-clause-long
returns-in_err-room-clause-long c =
    let a = c.args in
    let p = err_from_is_err_and c.from_residual-in_err-room.result c.from_residual-in_err-room.ensures.1 in
    λ P W T O numbers whole above.
    rw (p.1, p.2) (at_third _ _ _ _ _
    (long_table P a.bounds numbers a.stations.now a.carts.now a.messages.now W T O c.requires.laid.0 a.station.0 a.set a.text.now above c.requires.laid.3 whole (omega (arith, c.station_count.ensures, c.if-station_count-station.false)))
    (c.in_ok-check_set.ensures P a.messages.now W T O) c.in_ok-check_text.ensures _ (c.in_err-room.ensures.refusal P a.carts.now W T O numbers))

pub returns-in_err-check_store-clause-long : goal.returns-in_err-check_store-clause-long
returns-in_err-check_store-clause-long c =
    let a = c.args in
    let p = err_from_is_err_and c.from_residual-in_err-check_store.result c.from_residual-in_err-check_store.ensures.1 in
    λ P W T O numbers whole above.
    rw (p.1, p.2) (c.in_err-check_store.ensures ∙ behind _ _ _ _ _
    (long_table P a.bounds numbers a.stations.now a.carts.now a.messages.now W T O c.requires.laid.0 a.station.0 a.set a.text.now above c.requires.laid.3 whole (omega (arith, c.station_count.ensures, c.if-station_count-station.false)))
    (c.in_ok-check_set.ensures P a.messages.now W T O) c.in_ok-check_text.ensures (c.in_ok-room.ensures.refusal P a.carts.now W T O numbers))

pub returns-in_ok-check_store-clause-long : goal.returns-in_ok-check_store-clause-long
returns-in_ok-check_store-clause-long c =
    let a = c.args in
    λ P W T O numbers whole above.
    c.in_ok-check_store.ensures ∙ behind _ _ _ _ _
    (long_table P a.bounds numbers a.stations.now a.carts.now a.messages.now W T O c.requires.laid.0 a.station.0 a.set a.text.now above c.requires.laid.3 whole (omega (arith, c.station_count.ensures, c.if-station_count-station.false)))
    (c.in_ok-check_set.ensures P a.messages.now W T O) c.in_ok-check_text.ensures (c.in_ok-room.ensures.refusal P a.carts.now W T O numbers)

pub returns-else-text-gt-TEXT-clause-short : goal.returns-else-text-gt-TEXT-clause-short
returns-else-text-gt-TEXT-clause-short c =
    let a = c.args in
    λ P W T O numbers short.
    behind _ _ _ _ _
    (short_table P (floor_in (lent P a.stations.now a.carts.now a.messages.now W T O)) a.station.0 a.set a.text.now short (omega (arith, c.station_count.ensures, c.if-station_count-station.false)))
    (c.in_ok-check_set.ensures P a.messages.now W T O) c.in_ok-check_text.ensures (c.in_ok-room.ensures.refusal P a.carts.now W T O numbers)
