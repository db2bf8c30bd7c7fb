use mathlib.Core.Path.{refl, ◌∙◌}
use Prim.Native.Nat.{◌+◌}
use native.Mathlib.Omega.{arith}
use lib.ListN.{length-set}
use borrow.Author.Rules.{rules}
use Rattle.queue.proofs.Steps.{walk_start, walk_turn, walk_end}
use Rattle.stations.specs.View.{stations_in}
use Rattle.messages.specs.View.{rooms_in}
use Rattle.queue.specs.Rooms.{tables_floor, room_count}
use Rattle.catchup.proofs.QueueLaws.{marks_none, marks_one}
use Rattle.catchup.proofs.NamingLaws.{by_initiator}
use Rattle.catchup.proofs.StopLaws.{stops_nowhere, stops_none_of_us}
use Rattle.catchup.proofs.OnePass.{known_start, known_skips, known_nowhere, known_later, known_sooner, known_all}
use Rattle.catchup.proofs.stops_of.Goals as goal

pub loop-m-init : goal.loop-m-init
loop-m-init c =
    let a = c.args in
    (0, walk_start (room_count a.messages.now) a.naming (c.into_iter-m-iterator.ensures.into_iter_gives ∙ c.members_of-m-items.ensures) (omega arith) c.requires.covers.inside, known_start (tables_floor a.stations.now a.messages.now) a.station.0 a.cart.0 a.row c.levels-upto.result c.levels-upto.ensures, refl, marks_none)

pub initiator_for-requires : goal.initiator_for-requires
initiator_for-requires c =
    let w = walk_turn (room_count c.args.messages.now) c.args.naming c.loop-m.invariant.0 c.next.ensures.steps c.loop-m.invariant.1 c.in-Some.is in
    let inside = w.inside in
    search rules

pub stops_before-requires : goal.stops_before-requires
stops_before-requires c =
    let w = walk_turn (room_count c.args.messages.now) c.args.naming c.loop-m.invariant.0 c.next.ensures.steps c.loop-m.invariant.1 c.in-Some.is in
    let inside = w.inside in
    search rules

pub number_of-requires : goal.number_of-requires
number_of-requires c =
    let w = walk_turn (room_count c.args.messages.now) c.args.naming c.loop-m.invariant.0 c.next.ensures.steps c.loop-m.invariant.1 c.in-Some.is in
    let inside = w.inside in
    search rules

pub loop-m-preserved-then-stops_before : goal.loop-m-preserved-then-stops_before
loop-m-preserved-then-stops_before c =
    let w = walk_turn (room_count c.args.messages.now) c.args.naming c.loop-m.invariant.0 c.next.ensures.steps c.loop-m.invariant.1 c.in-Some.is in
    let before = known_skips (tables_floor c.args.stations.now c.args.messages.now) c.args.station.0 c.args.cart.0 c.args.row c.loop-m.upto c.loop-m.nearest c.loop-m.invariant.0 c.in-Some.m w.next (λ r h n. c.requires.covers.others r (w.skips r h n)) c.loop-m.invariant.2 in
    let a = c.args in
    let l = c.loop-m in
    let m = c.in-Some.m in
    let i = c.in-Some-initiator_for.initiator in
    let low = c.if-s-lt-INITIATORS.true in
    let is = by_initiator (stations_in a.stations.now) (rooms_in a.messages.now) a.station.0 a.cart.0 m i c.initiator_for.ensures c.in-Some-initiator_for.is in
    let b = c.stops_before in
    let n = c.number_of in (
      m + 1,
      w.ahead,
      known_sooner (tables_floor c.args.stations.now c.args.messages.now) a.station.0 a.cart.0 a.row l.upto l.nearest m before i.0 is.0 low is.1 b.result b.ensures n.result.0 c.if-stops_before.true n.ensures,
      simp length-set l.invariant.3,
      rw c.with_member-found.ensures (marks_one l.nearest l.found i.0 m l.invariant.3 low (let r = c.requires.has_station.1 in omega arith) l.invariant.4),
    )

pub loop-m-preserved-else-stops_before : goal.loop-m-preserved-else-stops_before
loop-m-preserved-else-stops_before c =
    let w = walk_turn (room_count c.args.messages.now) c.args.naming c.loop-m.invariant.0 c.next.ensures.steps c.loop-m.invariant.1 c.in-Some.is in
    let before = known_skips (tables_floor c.args.stations.now c.args.messages.now) c.args.station.0 c.args.cart.0 c.args.row c.loop-m.upto c.loop-m.nearest c.loop-m.invariant.0 c.in-Some.m w.next (λ r h n. c.requires.covers.others r (w.skips r h n)) c.loop-m.invariant.2 in
    let a = c.args in
    let l = c.loop-m in
    let m = c.in-Some.m in
    let i = c.in-Some-initiator_for.initiator in
    let low = c.if-s-lt-INITIATORS.true in
    let is = by_initiator (stations_in a.stations.now) (rooms_in a.messages.now) a.station.0 a.cart.0 m i c.initiator_for.ensures c.in-Some-initiator_for.is in
    let b = c.stops_before in (
      m + 1,
      w.ahead,
      known_later (tables_floor c.args.stations.now c.args.messages.now) a.station.0 a.cart.0 a.row l.upto l.nearest m before i.0 is.0 low is.1 b.result b.ensures c.if-stops_before.false,
      l.invariant.3,
      l.invariant.4,
    )

pub loop-m-preserved : goal.loop-m-preserved
loop-m-preserved c =
    let w = walk_turn (room_count c.args.messages.now) c.args.naming c.loop-m.invariant.0 c.next.ensures.steps c.loop-m.invariant.1 c.in-Some.is in
    let before = known_skips (tables_floor c.args.stations.now c.args.messages.now) c.args.station.0 c.args.cart.0 c.args.row c.loop-m.upto c.loop-m.nearest c.loop-m.invariant.0 c.in-Some.m w.next (λ r h n. c.requires.covers.others r (w.skips r h n)) c.loop-m.invariant.2 in
    let a = c.args in
    let l = c.loop-m in
    let m = c.in-Some.m in
    (m + 1, w.ahead, known_nowhere (tables_floor c.args.stations.now c.args.messages.now) a.station.0 a.cart.0 a.row l.upto l.nearest m before (stops_none_of_us a.stations.now a.messages.now a.station.0 a.cart.0 m c.initiator_for.ensures c.in-Some-initiator_for.initiator c.in-Some-initiator_for.is c.if-s-lt-INITIATORS.false), l.invariant.3, l.invariant.4)

pub loop-m-preserved-in_default : goal.loop-m-preserved-in_default
loop-m-preserved-in_default c =
    let w = walk_turn (room_count c.args.messages.now) c.args.naming c.loop-m.invariant.0 c.next.ensures.steps c.loop-m.invariant.1 c.in-Some.is in
    let before = known_skips (tables_floor c.args.stations.now c.args.messages.now) c.args.station.0 c.args.cart.0 c.args.row c.loop-m.upto c.loop-m.nearest c.loop-m.invariant.0 c.in-Some.m w.next (λ r h n. c.requires.covers.others r (w.skips r h n)) c.loop-m.invariant.2 in
    let a = c.args in
    let l = c.loop-m in
    let m = c.in-Some.m in
    (m + 1, w.ahead, known_nowhere (tables_floor c.args.stations.now c.args.messages.now) a.station.0 a.cart.0 a.row l.upto l.nearest m before (stops_nowhere a.stations.now a.messages.now a.station.0 a.cart.0 m c.initiator_for.ensures (search rules)), l.invariant.3, l.invariant.4)

pub returns : goal.returns
returns c =
    let a = c.args in
    let l = c.loop-m in
    let k = l.invariant.0 in
    let none = walk_end (room_count a.messages.now) a.naming k _ c.next.ensures.steps l.invariant.1 c.in-None.is in
    let all = known_skips (tables_floor c.args.stations.now c.args.messages.now) a.station.0 a.cart.0 a.row l.upto l.nearest k 32 (let w = l.invariant.1.within in omega arith) (λ r h n. c.requires.covers.others r (none r h)) l.invariant.2 in
    record {
      nearest_value = all.rooms;
      upto_value = known_all (tables_floor c.args.stations.now c.args.messages.now) a.station.0 a.cart.0 a.row l.upto l.nearest all;
      marks = l.invariant.4;
    }
