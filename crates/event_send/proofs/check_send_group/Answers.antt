-- `event_send::check_send_group` meets its contract.
use mathlib.Core.Bool.{not}
use mathlib.Core.Path.{refl, ap}
use native.Mathlib.Omega.{arith}
use Rattle.std.proofs.lemmas.Result.{err_from_is_err_and}
use Rattle.protocol.specs.Floor.{limits_of}
use Rattle.view.specs.View.{lent, floor_in}
use Rattle.event_send.specs.Checks.{text_checks, room_checks}
use Rattle.event_send.proofs.SendChecks.{at_second, ends, group_no_station, group_undefined, group_table}
use Rattle.event_send.proofs.check_send_group.Goals as goal

pub returns-then-station_count-station-clause-refusal : goal.returns-then-station_count-station-clause-refusal
returns-then-station_count-station-clause-refusal c =
    let a = c.args in
    λ P C W T O numbers. group_no_station P (floor_in (lent P a.stations.now C a.messages.now W T O)) a.station.0 a.group a.text.now c.requires.2 (omega (arith, c.station_count.ensures, c.if-station_count-station.true))

pub returns-then-not-is_defined-clause-refusal : goal.returns-then-not-is_defined-clause-refusal
returns-then-not-is_defined-clause-refusal c =
    let a = c.args in
    let asked = c.is_defined in
    λ P C W T O numbers. group_undefined P (floor_in (lent P a.stations.now C a.messages.now W T O)) a.station.0 a.group a.text.now c.requires.2 (omega (arith, c.station_count.ensures, c.if-station_count-station.false)) asked.result (asked.ensures P C a.messages.now W T O) (ap not c.if-not-is_defined.true)

pub returns-in_err-check_text-clause-refusal : goal.returns-in_err-check_text-clause-refusal
returns-in_err-check_text-clause-refusal c =
    let a = c.args in
    let asked = c.is_defined in
    let p = err_from_is_err_and c.from_residual.result c.from_residual.ensures.1 in
    λ P C W T O numbers.
    rw (p.1, p.2) (at_second _ (text_checks a.text.now) (room_checks (limits_of P) (floor_in (lent P a.stations.now C a.messages.now W T O)) a.station.0) 0 _
    (group_table P (floor_in (lent P a.stations.now C a.messages.now W T O)) a.station.0 a.group a.text.now c.requires.2 (omega (arith, c.station_count.ensures, c.if-station_count-station.false)) asked.result (asked.ensures P C a.messages.now W T O) (ap not c.if-not-is_defined.false))
    refl _ c.in_err-check_text.ensures)

pub returns-clause-refusal : goal.returns-clause-refusal
returns-clause-refusal c =
    let a = c.args in
    let asked = c.is_defined in
    λ P C W T O numbers.
    ends _ _ _ _
    (group_table P (floor_in (lent P a.stations.now C a.messages.now W T O)) a.station.0 a.group a.text.now c.requires.2 (omega (arith, c.station_count.ensures, c.if-station_count-station.false)) asked.result (asked.ensures P C a.messages.now W T O) (ap not c.if-not-is_defined.false))
    refl c.in_ok-check_text.ensures _ (c.check_room.ensures.refusal P C W T O numbers)
