use mathlib.Core.Path.{sym, ap, ◌∙◌}
use Prim.Native.Nat.{ℕ, ◌+◌}
use native.Mathlib.Omega.{arith}
use Rattle.queue.proofs.Steps.{walk_start, walk_turn, walk_end}
use Rattle.stations.specs.View.{stations_in, listing_in}
use Rattle.stations.proofs.TableLaws.{listing_word, listing_inside}
use Rattle.messages.specs.View.{rooms_in}
use Rattle.handoff.specs.Forwarded.{goes}
use Rattle.handoff.proofs.ForwardLaws.{found_none, found_skips, found_more, not_listed}
use Rattle.handoff.proofs.complete_rooms.Goals as goal

pub loop-m-init : goal.loop-m-init
loop-m-init c =
    let a = c.args in
    let S = a.stations.now in
    let t = a.station.0 in
    let e = c.into_iter-m-iterator.ensures.into_iter_gives ∙ c.members_of-m-items.ensures ∙ ap (λ (x : ℕ). record { left = x }) c.rooms_listing.ensures in
    (0, walk_start 32 (listing_in (stations_in S) t) e (listing_word (stations_in S) t) (listing_inside (stations_in S) t), found_none (goes (stations_in S) (rooms_in a.messages.now) t))

pub is_complete-requires : goal.is_complete-requires
is_complete-requires c =
    let a = c.args in
    let p = c.requires in
    let l = c.loop-m in
    let turn = walk_turn 32 (listing_in (stations_in a.stations.now) a.station.0) l.invariant.0 c.next.ensures.steps l.invariant.1 c.in-Some.is in
    (p.0, p.1, p.2, turn.inside)

pub with_if-complete-requires : goal.with_if-complete-requires
with_if-complete-requires c =
    let a = c.args in
    let l = c.loop-m in
    let turn = walk_turn 32 (listing_in (stations_in a.stations.now) a.station.0) l.invariant.0 c.next.ensures.steps l.invariant.1 c.in-Some.is in
    omega (arith, turn.inside)

pub loop-m-preserved : goal.loop-m-preserved
loop-m-preserved c =
    let a = c.args in
    let S = a.stations.now in
    let R = rooms_in a.messages.now in
    let t = a.station.0 in
    let l = c.loop-m in
    let k = l.invariant.0 in
    let m = c.in-Some.m in
    let turn = walk_turn 32 (listing_in (stations_in S) t) l.invariant.0 c.next.ensures.steps l.invariant.1 c.in-Some.is in
    let skipped = found_skips (goes (stations_in S) R t) k m turn.next (λ r h n. not_listed S R t r (turn.skips r h n)) in (
      m + 1,
      turn.ahead,
      found_more (goes (stations_in S) R t) k m l.complete c.with_if-complete.result c.is_complete.result l.invariant.2 skipped c.is_complete.ensures c.with_if-complete.ensures,
    )

pub returns : goal.returns
returns c =
    let a = c.args in
    let S = a.stations.now in
    let R = rooms_in a.messages.now in
    let t = a.station.0 in
    let l = c.loop-m in
    let k = l.invariant.0 in
    let none = walk_end 32 (listing_in (stations_in S) t) k _ c.next.ensures.steps l.invariant.1 c.in-None.is in
    let skipped = found_skips (goes (stations_in S) R t) k 32 l.invariant.1.within (λ r h n. not_listed S R t r (none r h)) in
    l.invariant.2 ∙ sym skipped
