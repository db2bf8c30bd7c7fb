-- `handoff::dock_unnamed` meets its contract.
use native.Mathlib.Omega.{arith}
use Rattle.protocol.proofs.SetLaws.{has_zero}
use Rattle.stations.specs.View.{stations_in}
use Rattle.messages.specs.View.{rooms_in}
use Rattle.queue.specs.Rooms.{tables_floor, room_count}
use Rattle.catchup.specs.Arrival.{none_near}
use Rattle.catchup.proofs.RowLaws.{rises_little, rise_is}
use Rattle.catchup.proofs.OnePass.{known_start, known_skips, known_all}
use Rattle.handoff.proofs.RiseLaws.{joins_none, no_depth}
use Rattle.handoff.proofs.RoomByRoom.{struck_none}
use Rattle.handoff.proofs.dock_unnamed.Goals as goal

pub passed_over-requires : goal.passed_over-requires
passed_over-requires c =
    let a = c.args in
    let F = tables_floor a.stations.now a.messages.now in
    let known = known_skips F a.station.0 a.cart.0 a.row c.levels-upto.result none_near 0 32 (omega arith) (λ m h n. c.requires.covers.others m (has_zero m))
    (known_start F a.station.0 a.cart.0 a.row c.levels-upto.result c.levels-upto.ensures) in
    rises_little F a.station.0 a.cart.0 a.row none_near known.rooms c.levels-upto.result
    (known_all F a.station.0 a.cart.0 a.row c.levels-upto.result none_near known) c.requires.by_index

pub returns : goal.returns
returns c =
    let a = c.args in
    let S = a.stations.now in
    let F = tables_floor S a.messages.now in
    let known = known_skips F a.station.0 a.cart.0 a.row c.levels-upto.result none_near 0 32 (omega arith) (λ m h n. c.requires.covers.others m (has_zero m))
    (known_start F a.station.0 a.cart.0 a.row c.levels-upto.result c.levels-upto.ensures) in
    let stops = known_all F a.station.0 a.cart.0 a.row c.levels-upto.result none_near known in
    let p = c.passed_over in
    record {
      struck = S;
      is_struck_lem = struck_none (stations_in S) (rooms_in a.messages.now) a.station.0 a.cart.0 a.row c.requires.covers;
      nearest = none_near;
      is_nearest = known.rooms;
      stations = joins_none (stations_in S) a.station.0 a.cart.0 c.settle.ensures.0;
      head = c.settle.ensures.1.0;
      table = c.settle.ensures.1.1;
      caught_up_lem = stops;
      count = rise_is F a.station.0 a.cart.0 a.row none_near known.rooms c.levels-upto.result stops p.result p.ensures;
      deepest = no_depth (stations_in S) (rooms_in a.messages.now) a.station.0 a.cart.0 (room_count a.messages.now);
    }
