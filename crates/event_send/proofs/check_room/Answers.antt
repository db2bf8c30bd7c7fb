-- `event_send::check_room` meets its contract.
use mathlib.Core.Path.{ap, ◌∙◌}
use native.Mathlib.Omega.{arith}
use Prim.Native.Nat.{◌≤◌}
use Rattle.stations.specs.View.{stations_in}
use Rattle.refusals.specs.Numbers.{refusal_in}
use Rattle.refusals.specs.declared.Refusal.TheVariants.{RoomsTaken}
use Rattle.event_send.proofs.SendMeets.{searched}
use Rattle.event_send.proofs.SendChecks.{room_numbers_used, rooms_full, room_passes, by_found}
use Rattle.event_send.proofs.check_room.Goals as goal

pub overflow_cast-sent : goal.overflow_cast-sent
overflow_cast-sent c = omega (arith, c.sent_of-sent.ensures)

pub returns-then-bounds-sent-clause-refusal : goal.returns-then-bounds-sent-clause-refusal
returns-then-bounds-sent-clause-refusal c =
    let a = c.args in
    λ P C W T O numbers. room_numbers_used a.stations.now a.station.0 P C a.messages.now W T O (omega (arith, numbers.last_is, c.sent_of-sent.ensures, c.if-bounds-sent.true))

pub returns-clause-refusal : goal.returns-clause-refusal
returns-clause-refusal c =
    let a = c.args in
    λ P C W T O numbers.
    let within : (stations_in a.stations.now).sent a.station.0 ≤ P.last = omega (arith, numbers.last_is, c.sent_of-sent.ensures, c.if-bounds-sent.false) in
    let found = searched P a.bounds numbers a.messages.now c.free_room.result c.free_room.ensures in
    ap refusal_in c.ok_or.ensures.value
    ∙ by_found c.free_room.result RoomsTaken _
    (λ z. rooms_full a.stations.now a.station.0 P C a.messages.now W T O within c.free_room.result found z)
    (λ m z. room_passes a.stations.now a.station.0 P C a.messages.now W T O within c.free_room.result found m z)
