use mathlib.Core.Path.{◌≡◌, refl, ap, ◌∙◌}
use Prim.Native.Nat.{ℕ, suc, ◌+◌, ◌<◌, ◌≤◌}
use native.Mathlib.Omega.{arith}
use lib.ListN.{get_or}
use borrow.Author.Rules.{rules}
use Rattle.queue.proofs.Steps.{walk_start, walk_turn, walk_end}
use Rattle.queue.specs.Rooms.{room_count}
use Rattle.stations.specs.View.{stations_in}
use Rattle.messages.specs.View.{rooms_in}
use Rattle.catchup.specs.Arrival.{occurs, queued_for, deepest_to}
use Rattle.catchup.proofs.QueueLaws.{said_of, marked_room, marks_inside, not_marked, queued_start, queued_skips, queued_next, deepest_skips, deepest_next}
use Rattle.catchup.proofs.enqueue_all.Goals as goal

pub loop-s-init : goal.loop-s-init
unfolding deepest_to
loop-s-init c =
    let a = c.args in
    let M = c.requires.rooms_below.1 in (
      0,
      walk_start 16 a.found (c.into_iter-s-iterator.ensures.into_iter_gives ∙ c.members_of-s-items.ensures) (let w = M.word in omega arith) (marks_inside a.nearest a.found M),
      refl,
      refl,
      queued_start (stations_in a.stations.now) a.station.0 a.cart.0 a.nearest,
      refl,
    )

pub offset_bounds-nearest-s : goal.offset_bounds-nearest-s
offset_bounds-nearest-s c =
    let a = c.args in
    let l = c.loop-s in
    let s = c.in-Some.s in
    let turn = walk_turn 16 a.found l.invariant.0 c.next.ensures.steps l.invariant.1 c.in-Some.is in
    let inside = turn.inside in
    search rules

pub bounds-nearest-s : goal.bounds-nearest-s
bounds-nearest-s c =
    let a = c.args in
    let l = c.loop-s in
    let s = c.in-Some.s in
    let turn = walk_turn 16 a.found l.invariant.0 c.next.ensures.steps l.invariant.1 c.in-Some.is in
    let inside = turn.inside in
    search rules

pub enqueue_for-place-requires : goal.enqueue_for-place-requires
enqueue_for-place-requires c =
    let a = c.args in
    let l = c.loop-s in
    let s = c.in-Some.s in
    let turn = walk_turn 16 a.found l.invariant.0 c.next.ensures.steps l.invariant.1 c.in-Some.is in
    let p = c.requires in
    (omega (arith, p.has_station.0, l.invariant.2), p.has_station.1, p.has_station.2, omega (arith, p.rooms_below.0 _ (said_of a.nearest 16 s _ turn.inside (marked_room a.nearest a.found s p.rooms_below.1 turn.member) refl)))

pub loop-s-preserved : goal.loop-s-preserved
loop-s-preserved c =
    let a = c.args in
    let l = c.loop-s in
    let s = c.in-Some.s in
    let turn = walk_turn 16 a.found l.invariant.0 c.next.ensures.steps l.invariant.1 c.in-Some.is in
    let S = stations_in a.stations.now in
    let R = rooms_in a.messages.now in
    let t = a.station.0 in
    let d = a.cart.0 in
    let rooms = room_count a.messages.now in
    let on : suc s ≡ s + 1 = omega arith in
    let none : (u : ℕ) → l.invariant.0 ≤ u → u < s → 32 ≤ get_or a.nearest u 0 = λ u h k. not_marked a.nearest a.found u c.requires.rooms_below.1 (let z = turn.inside in omega arith) (turn.skips u h k) in
    let e = c.enqueue_for-place.ensures in
    let room = marked_room a.nearest a.found s c.requires.rooms_below.1 turn.member in
    let queued = queued_next S t d a.nearest s room (queued_skips S t d a.nearest l.invariant.0 s turn.next none l.invariant.4) e.leaves.0 in (
      s + 1,
      turn.ahead,
      e.leaves.1.1 ∙ l.invariant.2,
      e.leaves.1.0 ∙ l.invariant.3,
      queued ∙ ap (λ (k : ℕ). queued_for S t d (occurs a.nearest k)) on,
      deepest_next S t d a.nearest R rooms s l.deepest c.enqueue_for-place.result c.max-deepest.result room queued (deepest_skips S t d a.nearest R rooms l.invariant.0 s l.deepest turn.next none l.invariant.5) e.value c.max-deepest.ensures
          ∙ ap (deepest_to S R t d rooms a.nearest) on,
    )

pub returns : goal.returns
returns c =
    let a = c.args in
    let l = c.loop-s in
    let k = l.invariant.0 in
    let nobody = walk_end 16 a.found k _ c.next.ensures.steps l.invariant.1 c.in-None.is in
    let none : (u : ℕ) → k ≤ u → u < 16 → 32 ≤ get_or a.nearest u 0 = λ u h q. not_marked a.nearest a.found u c.requires.rooms_below.1 q (nobody u h) in
    record {
      leaves = (queued_skips (stations_in a.stations.now) a.station.0 a.cart.0 a.nearest k 16 l.invariant.1.within none l.invariant.4, (l.invariant.3, l.invariant.2));
      value = deepest_skips (stations_in a.stations.now) a.station.0 a.cart.0 a.nearest (rooms_in a.messages.now) (room_count a.messages.now) k 16 l.deepest l.invariant.1.within none l.invariant.5;
    }
