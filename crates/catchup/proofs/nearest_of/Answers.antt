use mathlib.Core.Path.{refl, sym, ap, ◌∙◌}
use Prim.Native.Nat.{ℕ, ◌+◌}
use native.Mathlib.Omega.{arith}
use Rattle.queue.proofs.Steps.{walk_start, walk_turn, walk_end}
use Rattle.stations.specs.View.{stations_in, naming_in}
use Rattle.queue.specs.Rooms.{tables_floor, room_code, room_count}
use Rattle.catchup.proofs.NamingLaws.{naming_word, naming_inside, naming_covers}
use Rattle.catchup.proofs.RoomLaws.{nearest_none, nearest_low, nearest_again, nearest_skips}
use Rattle.catchup.proofs.nearest_of.Goals as goal

pub loop-m-init : goal.loop-m-init
loop-m-init c =
    let a = c.args in
    let S = a.stations.now in
    let t = a.station.0 in
    let named = c.into_iter-m-iterator.ensures.into_iter_gives ∙ c.members_of-m-items.ensures ∙ ap (λ (x : ℕ). record { left = x }) c.rooms_naming.ensures in (
      0,
      walk_start (room_count a.messages.now) (naming_in (stations_in S) t a.cart.0) named (naming_word (stations_in S) t a.cart.0) c.requires.by_index,
      nearest_none (tables_floor S a.messages.now) t a.cart.0 a.initiator.0 a.next,
    )

pub nearer-nearest-requires : goal.nearer-nearest-requires
nearer-nearest-requires c =
    let a = c.args in
    let l = c.loop-m in
    let turn = walk_turn (room_count a.messages.now) (naming_in (stations_in a.stations.now) a.station.0 a.cart.0) l.invariant.0 c.next.ensures.steps l.invariant.1 c.in-Some.is in
    let inside = turn.inside in
    let within = l.invariant.1.within in
    let p = c.requires.has_station in
    (p.0, p.1, p.2, p.3, p.4, inside, λ k found. let z = nearest_low (tables_floor a.stations.now a.messages.now) a.station.0 a.cart.0 a.initiator.0 a.next l.invariant.0 k l.invariant.2 found in omega arith)

pub loop-m-preserved : goal.loop-m-preserved
loop-m-preserved c =
    let a = c.args in
    let S = a.stations.now in
    let F = tables_floor S a.messages.now in
    let t = a.station.0 in
    let l = c.loop-m in
    let m = c.in-Some.m in
    let turn = walk_turn (room_count a.messages.now) (naming_in (stations_in S) t a.cart.0) l.invariant.0 c.next.ensures.steps l.invariant.1 c.in-Some.is in
    let inside = turn.inside in
    let skipped = nearest_skips F t a.cart.0 a.initiator.0 a.next l.invariant.0 m turn.next (λ r h n. (naming_covers S t a.cart.0 32 (naming_inside S t a.cart.0) _ refl).others r (turn.skips r h n)) in (
      m + 1,
      turn.ahead,
      nearest_again F t a.cart.0 a.initiator.0 a.next m (l.invariant.2 ∙ ap room_code (sym skipped)) c.nearer-nearest.ensures,
    )

pub returns : goal.returns
returns c =
    let a = c.args in
    let S = a.stations.now in
    let F = tables_floor S a.messages.now in
    let t = a.station.0 in
    let l = c.loop-m in
    let k = l.invariant.0 in
    let none = walk_end (room_count a.messages.now) (naming_in (stations_in S) t a.cart.0) k _ c.next.ensures.steps l.invariant.1 c.in-None.is in
    let skipped = nearest_skips F t a.cart.0 a.initiator.0 a.next k 32 (let w = l.invariant.1.within in omega arith) (λ r h n. (naming_covers S t a.cart.0 32 (naming_inside S t a.cart.0) _ refl).others r (none r h)) in
    l.invariant.2 ∙ ap room_code (sym skipped)
