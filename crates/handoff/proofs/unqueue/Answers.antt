use mathlib.Core.Path.{refl, ap, ◌∙◌}
use Prim.Native.Nat.{ℕ, ◌+◌}
use borrow.Author.Rules.{rules}
use Rattle.queue.proofs.Steps.{walk_start, walk_turn, walk_end}
use Rattle.stations.specs.View.{stations_in, entries_in}
use Rattle.stations.proofs.TableLaws.{entries_word, entries_inside, not_in_entries}
use Rattle.handoff.proofs.RoomByRoom.{unqueue_none, unqueue_one, unqueue_skips, unqueue_all}
use Rattle.handoff.proofs.unqueue.Goals as goal

pub loop-m-init : goal.loop-m-init
loop-m-init c =
    let a = c.args in
    let S = a.stations.now in
    let t = a.station.0 in
    let e = c.into_iter-m-iterator.ensures.into_iter_gives ∙ c.members_of-m-items.ensures ∙ ap (λ (x : ℕ). record { left = x }) c.entries_of.ensures in (
      0,
      walk_start 32 (entries_in S t) e (entries_word S t) (entries_inside S t),
      refl,
      refl,
      unqueue_none (stations_in S) t a.number.0,
    )

pub queue_of-requires : goal.queue_of-requires
queue_of-requires c =
    let a = c.args in
    let l = c.loop-m in
    let i = (walk_turn 32 (entries_in a.stations.now a.station.0) l.invariant.0 c.next.ensures.steps l.invariant.1 c.in-Some.is).inside in
    search rules

pub put_queue-requires : goal.put_queue-requires
put_queue-requires c =
    let a = c.args in
    let l = c.loop-m in
    let i = (walk_turn 32 (entries_in a.stations.now a.station.0) l.invariant.0 c.next.ensures.steps l.invariant.1 c.in-Some.is).inside in
    search rules

pub loop-m-preserved : goal.loop-m-preserved
loop-m-preserved c =
    let a = c.args in
    let S = stations_in a.stations.now in
    let t = a.station.0 in
    let E = entries_in a.stations.now t in
    let l = c.loop-m in
    let turn = walk_turn 32 E l.invariant.0 c.next.ensures.steps l.invariant.1 c.in-Some.is in
    let m = c.in-Some.m in
    let q = c.queue_of in
    let k = c.without_member-carts in
    let p = c.put_queue in
    let come =
    unqueue_skips S t a.number.0 E (λ r. not_in_entries a.stations.now r t) l.invariant.0 l.invariant.4
    m turn.next turn.skips in (
      m + 1,
      turn.ahead,
      p.ensures.1.1 ∙ l.invariant.2,
      p.ensures.1.0 ∙ l.invariant.3,
      unqueue_one S t a.number.0 m q.result k.result come q.ensures k.ensures p.ensures.0,
    )

pub returns : goal.returns
returns c =
    let a = c.args in
    let t = a.station.0 in
    let E = entries_in a.stations.now t in
    let l = c.loop-m in
    let none = walk_end 32 E l.invariant.0 _ c.next.ensures.steps l.invariant.1 c.in-None.is in (
      unqueue_all (stations_in a.stations.now) t a.number.0 E (λ r. not_in_entries a.stations.now r t) l.invariant.0 l.invariant.4 none,
      (l.invariant.3, l.invariant.2),
    )
