-- `wireless::catch_up` meets its contract.
use mathlib.Core.Path.{◌≡◌, refl, ap, ◌∙◌}
use mathlib.Core.Option.{Option}
use Prim.Native.Nat.{ℕ, ◌-◌, ◌≤◌}
use native.Mathlib.Omega.{arith}
use Rattle.stations.specs.View.{stations_in}
use Rattle.carts.specs.View.{carts_in, with_next}
use Rattle.messages.specs.View.{rooms_in}
use Rattle.queue.specs.Rooms.{tables_floor, room_count}
use Rattle.reports.specs.declared.Effect.{Effect}
use Rattle.catchup.specs.Nearest.{nearest_among, stop_by}
use Rattle.catchup.specs.Arrival.{is_found, queued_for, place_found}
use Rattle.wireless.proofs.Parts.{naming_below, found_is_lem, found_below, no_fall, stays, none_queued, none_placed}
use Rattle.wireless.proofs.catch_up.Goals as goal

-- the next number is not below the expected one
pub returns-then-expected_of-next : goal.returns-then-expected_of-next
returns-then-expected_of-next c =
    let a = c.args in
    let F = tables_floor a.stations.now a.messages.now in
    let y = c.expected_of in
    let taken = c.if-expected_of-next.true in
    let low : F.expected a.station.0 a.initiator.0 ≤ a.next = omega (arith, y.ensures, taken) in
    let upto = stays F a.station.0 a.number.0 a.initiator.0 a.next low in
    let put = c.put_next.ensures in
    record {
      stations = none_queued F a.station.0 a.number.0 a.initiator.0 a.next (stations_in a.stations.now) low;
      head = refl;
      words = refl;
      carts = put.carts_after ∙ ap (with_next (carts_in a.carts.now) a.number.0 a.initiator.0) upto;
      canonical = put.carts_unchanged;
      rows = put.carts_len_unchanged;
      passed = ap (λ (x : Effect). x.passed) c.nothing.ensures ∙ (let z : 0 ≡ (stop_by F a.station.0 a.initiator.0 a.next (nearest_among F a.station.0 a.number.0 a.initiator.0 a.next 32)).upto - a.next = omega (arith, upto) in z);
      place = ap (λ (x : Effect). x.place) c.nothing.ensures ∙ none_placed F a.station.0 a.number.0 a.initiator.0 a.next (stations_in a.stations.now) (rooms_in a.messages.now) (room_count a.messages.now) low;
    }

pub nearest_of-nearest-requires : goal.nearest_of-nearest-requires
nearest_of-nearest-requires c =
    let a = c.args in
    let p = c.requires in
    record {
      has_station = (p.has_station.0, p.has_station.1, p.has_station.2, p.has_station.4, p.has_station.3);
      by_index = naming_below a.stations.now a.station.0 a.number.0 (room_count a.messages.now) p.by_index;
    }

pub stop_of-upto-requires : goal.stop_of-upto-requires
stop_of-upto-requires c =
    let a = c.args in
    let p = c.requires in
    let n = c.nearest_of-nearest in
    let F = tables_floor a.stations.now a.messages.now in
    (p.has_station.0, p.has_station.1, p.has_station.3, found_below F a.station.0 a.number.0 a.initiator.0 a.next (room_count a.messages.now) p.by_index n.ensures)

pub enqueue-place-requires : goal.enqueue-place-requires
enqueue-place-requires c =
    let a = c.args in
    let p = c.requires in
    let n = c.nearest_of-nearest in
    let F = tables_floor a.stations.now a.messages.now in
    (p.has_station.0, p.has_station.1, p.has_station.4, found_below F a.station.0 a.number.0 a.initiator.0 a.next (room_count a.messages.now) p.by_index n.ensures)

pub overflow_sub-upto : goal.overflow_sub-upto
overflow_sub-upto c =
    let a = c.args in
    let F = tables_floor a.stations.now a.messages.now in
    let n = c.nearest_of-nearest in
    let found = found_is_lem F a.station.0 a.number.0 a.initiator.0 a.next n.ensures in
    let upto = c.stop_of-upto.ensures ∙ ap (λ (o : Option ℕ). (stop_by F a.station.0 a.initiator.0 a.next o).upto) found in
    omega (arith, upto, no_fall F a.station.0 a.number.0 a.initiator.0 a.next)

pub returns : goal.returns
returns c =
    let a = c.args in
    let F = tables_floor a.stations.now a.messages.now in
    let n = c.nearest_of-nearest in
    let found = found_is_lem F a.station.0 a.number.0 a.initiator.0 a.next n.ensures in
    let upto = c.stop_of-upto.ensures ∙ ap (λ (o : Option ℕ). (stop_by F a.station.0 a.initiator.0 a.next o).upto) found in
    let raised = c.put_next-2.ensures in
    let queued = c.enqueue-place.ensures in
    record {
      stations = queued.leaves.0 ∙ ap (λ (o : Option ℕ). queued_for (stations_in a.stations.now) a.station.0 a.number.0 (is_found o)) found;
      head = queued.leaves.1.0;
      words = queued.leaves.1.1;
      carts = raised.carts_after ∙ ap (with_next (carts_in a.carts.now) a.number.0 a.initiator.0) upto;
      canonical = raised.carts_unchanged;
      rows = raised.carts_len_unchanged;
      passed = ap (λ (x : Effect). x.passed) c.queueing.ensures ∙ ap (λ (y : ℕ). y - a.next) upto;
      place = ap (λ (x : Effect). x.place) c.queueing.ensures ∙ queued.value ∙ ap (λ (o : Option ℕ). place_found (stations_in c.enqueue-place.new.stations) (rooms_in a.messages.now) a.station.0 (room_count a.messages.now) o) found;
    }
