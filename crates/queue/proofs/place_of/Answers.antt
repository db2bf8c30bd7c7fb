use mathlib.Core.Path.{refl, sym, ap, ◌∙◌}
use mathlib.Core.Bool.{Bool, ◌&&◌}
use Prim.Native.Nat.{ℕ, ◌+◌}
use native.Mathlib.Omega.{arith}
use lib.Dec.{ltb}
use Rattle.protocol.specs.Folds.{count}
use Rattle.protocol.specs.CartSets.{without}
use Rattle.protocol.proofs.Counting.{count_le}
use Rattle.stations.specs.View.{entries_in, stations_in}
use Rattle.messages.specs.View.{rooms_in}
use Rattle.queue.specs.Rooms.{room_count}
use Rattle.queue.specs.Places.{is_ahead}
use Rattle.queue.proofs.Steps.{walk_start, walk_turn, walk_end}
use Rattle.queue.proofs.PlaceLaws.{at_most_one, others_word, others_inside, others_ahead, count_skips, count_on, counted_all}
use Rattle.queue.proofs.place_of.Goals as goal

pub loop-k-init : goal.loop-k-init
unfolding count
loop-k-init c =
    let a = c.args in
    let S = a.stations.now in
    let t = a.station.0 in
    let e = c.into_iter-k-iterator.ensures.into_iter_gives ∙ c.members_of-k-items.ensures ∙ ap (λ (x : ℕ). record { left = x }) (c.without_member-others.ensures ∙ ap (λ (x : ℕ). without x a.m) c.entries_of.ensures) in
    (0, walk_start 32 (without (entries_in S t) a.m) e (others_word S t a.m) (others_inside S t a.m), refl)

pub is_ahead-requires : goal.is_ahead-requires
is_ahead-requires c =
    let a = c.args in
    let S = a.stations.now in
    let t = a.station.0 in
    let l = c.loop-k in
    let turn = walk_turn 32 (without (entries_in S t) a.m) l.invariant.0 c.next.ensures.steps l.invariant.1 c.in-Some.is in
    (c.requires.0, turn.inside, c.requires.2)

pub overflow_add-before : goal.overflow_add-before
overflow_add-before c =
    let a = c.args in
    let l = c.loop-k in
    let most = count_le l.invariant.0 (λ r. ltb r (room_count a.messages.now) && is_ahead (stations_in a.stations.now) (rooms_in a.messages.now) a.station.0 a.m r) in
    let byte = at_most_one c.is_ahead.result in
    omega (arith, l.invariant.2, most, l.invariant.1.within, byte, c.from-before.ensures)

pub loop-k-preserved : goal.loop-k-preserved
loop-k-preserved c =
    let a = c.args in
    let S = a.stations.now in
    let t = a.station.0 in
    let l = c.loop-k in
    let turn = walk_turn 32 (without (entries_in S t) a.m) l.invariant.0 c.next.ensures.steps l.invariant.1 c.in-Some.is in
    let k = l.invariant.0 in
    let m = c.in-Some.k in
    let ahead : ℕ → Bool = λ r. ltb r (room_count a.messages.now) && is_ahead (stations_in S) (rooms_in a.messages.now) t a.m r in
    let skipped = count_skips ahead k m turn.next (λ r h n. others_ahead S a.messages.now t a.m r (turn.skips r h n)) in
    (m + 1, turn.ahead, count_on ahead k m l.before _ c.is_ahead.result c.from-before.ensures skipped l.invariant.2 c.is_ahead.ensures)

pub overflow_add-result : goal.overflow_add-result
overflow_add-result c =
    let a = c.args in
    let l = c.loop-k in
    let most = count_le l.invariant.0 (λ r. ltb r (room_count a.messages.now) && is_ahead (stations_in a.stations.now) (rooms_in a.messages.now) a.station.0 a.m r) in
    omega (arith, l.invariant.2, most, l.invariant.1.within)

pub returns : goal.returns
returns c =
    let a = c.args in
    let S = a.stations.now in
    let t = a.station.0 in
    let l = c.loop-k in
    let k = l.invariant.0 in
    let none = walk_end 32 (without (entries_in S t) a.m) k _ c.next.ensures.steps l.invariant.1 c.in-None.is in
    let ahead : ℕ → Bool = λ r. ltb r (room_count a.messages.now) && is_ahead (stations_in S) (rooms_in a.messages.now) t a.m r in
    let skipped = count_skips ahead k 32 l.invariant.1.within (λ r h n. others_ahead S a.messages.now t a.m r (none r h)) in
    counted_all (stations_in S) (rooms_in a.messages.now) t a.m (room_count a.messages.now) c.requires.1 l.before (l.invariant.2 ∙ sym skipped)
