use mathlib.Core.Path.{refl, ◌∙◌}
use Prim.Native.Nat.{◌+◌}
use native.Mathlib.Omega.{arith}
use borrow.Author.Rules.{rules}
use Rattle.queue.specs.Rooms.{room_count}
use Rattle.queue.proofs.Steps.{walk_start, walk_turn, walk_end}
use Rattle.stations.specs.View.{stations_in}
use Rattle.messages.specs.View.{rooms_in}
use Rattle.catchup.proofs.NamingLaws.{by_initiator}
use Rattle.handoff.proofs.PassedLaws.{passed_nowhere, passed_none_of_us}
use Rattle.handoff.proofs.RoomByRoom.{strike_none, strike_by, strike_kept, strike_skips, strike_all}
use Rattle.handoff.proofs.strike.Goals as goal

pub loop-m-init : goal.loop-m-init
loop-m-init c =
    let a = c.args in (
      0,
      walk_start (room_count a.messages.now) a.naming (c.into_iter-m-iterator.ensures.into_iter_gives ∙ c.members_of-m-items.ensures) (omega arith) c.requires.covers.inside,
      refl,
      refl,
      strike_none (stations_in a.stations.now) (rooms_in a.messages.now) a.station.0 a.cart.0 a.row,
      c.requires.covers,
    )

pub initiator_for-requires : goal.initiator_for-requires
initiator_for-requires c =
    let a = c.args in
    let l = c.loop-m in
    let m = c.in-Some.m in
    let turn = walk_turn (room_count a.messages.now) a.naming l.invariant.0 c.next.ensures.steps l.invariant.1 c.in-Some.is in
    let i = turn.inside in
    search rules

pub strike_from-ahead-requires : goal.strike_from-ahead-requires
strike_from-ahead-requires c =
    let a = c.args in
    let l = c.loop-m in
    let m = c.in-Some.m in
    let turn = walk_turn (room_count a.messages.now) a.naming l.invariant.0 c.next.ensures.steps l.invariant.1 c.in-Some.is in
    let i = turn.inside in
    let is = (by_initiator (stations_in l.stations) (rooms_in a.messages.now) a.station.0 a.cart.0 m c.in-Some-initiator_for.initiator c.initiator_for.ensures c.in-Some-initiator_for.is).0 in
    record {
      has_station = search rules;
      initiator_value = (is, l.invariant.5);
    }

pub loop-m-preserved-then-s-lt-INITIATORS : goal.loop-m-preserved-then-s-lt-INITIATORS
loop-m-preserved-then-s-lt-INITIATORS c =
    let a = c.args in
    let l = c.loop-m in
    let m = c.in-Some.m in
    let turn = walk_turn (room_count a.messages.now) a.naming l.invariant.0 c.next.ensures.steps l.invariant.1 c.in-Some.is in
    let S = stations_in a.stations.now in
    let R = rooms_in a.messages.now in
    let t = a.station.0 in
    let b = c.in-Some-initiator_for.initiator in
    let come = strike_skips S R t a.cart.0 a.row a.naming c.requires.covers.others l.invariant.0 l.invariant.4 m turn.next turn.skips in
    let k = c.strike_from-ahead in (
      m + 1,
      turn.ahead,
      k.ensures.leaves.1.1 ∙ l.invariant.2,
      k.ensures.leaves.1.0 ∙ l.invariant.3,
      strike_by S R t a.cart.0 a.row m b.0 come (by_initiator (stations_in l.stations) R t a.cart.0 m b c.initiator_for.ensures c.in-Some-initiator_for.is).0 k.ensures.leaves.0,
      k.ensures.covers,
    )

pub loop-m-preserved : goal.loop-m-preserved
loop-m-preserved c =
    let a = c.args in
    let l = c.loop-m in
    let m = c.in-Some.m in
    let turn = walk_turn (room_count a.messages.now) a.naming l.invariant.0 c.next.ensures.steps l.invariant.1 c.in-Some.is in
    let S = stations_in a.stations.now in
    let R = rooms_in a.messages.now in
    let t = a.station.0 in
    let b = c.in-Some-initiator_for.initiator in
    let come = strike_skips S R t a.cart.0 a.row a.naming c.requires.covers.others l.invariant.0 l.invariant.4 m turn.next turn.skips in
    (m + 1, turn.ahead, l.invariant.2, l.invariant.3, strike_kept S R t a.cart.0 a.row m come (passed_none_of_us l.stations R t a.cart.0 m a.row c.initiator_for.ensures b c.in-Some-initiator_for.is c.if-s-lt-INITIATORS.false) refl, l.invariant.5)

pub loop-m-preserved-in_default : goal.loop-m-preserved-in_default
loop-m-preserved-in_default c =
    let a = c.args in
    let l = c.loop-m in
    let m = c.in-Some.m in
    let turn = walk_turn (room_count a.messages.now) a.naming l.invariant.0 c.next.ensures.steps l.invariant.1 c.in-Some.is in
    let S = stations_in a.stations.now in
    let R = rooms_in a.messages.now in
    let t = a.station.0 in
    let come = strike_skips S R t a.cart.0 a.row a.naming c.requires.covers.others l.invariant.0 l.invariant.4 m turn.next turn.skips in
    (m + 1, turn.ahead, l.invariant.2, l.invariant.3, strike_kept S R t a.cart.0 a.row m come (passed_nowhere l.stations R t a.cart.0 m a.row c.initiator_for.ensures (search rules)) refl, l.invariant.5)

pub returns : goal.returns
returns c =
    let a = c.args in
    let l = c.loop-m in
    let none = walk_end (room_count a.messages.now) a.naming l.invariant.0 _ c.next.ensures.steps l.invariant.1 c.in-None.is in
    let struck = strike_all (stations_in a.stations.now) (rooms_in a.messages.now) a.station.0 a.cart.0 a.row a.naming c.requires.covers.others l.invariant.0 l.invariant.4 none in
    record {
      leaves = (struck, (l.invariant.3, l.invariant.2));
      covers_2 = l.invariant.5;
    }
