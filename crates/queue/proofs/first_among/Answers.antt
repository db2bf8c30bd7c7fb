use mathlib.Core.Path.{ap, ◌∙◌}
use mathlib.Core.List.{[]}
use Prim.Native.Nat.{◌+◌}
use native.Mathlib.Omega.{arith}
use Rattle.protocol.specs.CartSets.{has}
use Rattle.queue.specs.Rooms.{tables_floor, room_code}
use Rattle.queue.proofs.Steps.{walk_start, walk_turn, walk_end}
use Rattle.queue.proofs.HeadLaws.{first_skips}
use Rattle.queue.proofs.KeyLaws.{best_none, best_again, best_all, picked}
use Rattle.queue.proofs.first_among.Goals as goal

pub loop-m-init : goal.loop-m-init
loop-m-init c =
    let a = c.args in
    let p = c.requires in
    (0, walk_start 32 a.among (c.into_iter-m-iterator.ensures.into_iter_gives ∙ c.members_of-m-items.ensures) (omega arith) (λ m e. (p m e).0), best_none (tables_floor [] a.messages.now) (has a.among))

pub key_of-requires : goal.key_of-requires
key_of-requires c =
    let a = c.args in
    let l = c.loop-m in
    let turn = walk_turn 32 a.among l.invariant.0 c.next.ensures.steps l.invariant.1 c.in-Some.is in
    let has_room = c.requires c.in-Some.m turn.member in
    (has_room.1, has_room.2)

pub loop-m-preserved : goal.loop-m-preserved
loop-m-preserved c =
    let a = c.args in
    let p = c.requires in
    let F = tables_floor [] a.messages.now in
    let pick = has a.among in
    let l = c.loop-m in
    let k = l.invariant.0 in
    let m = c.in-Some.m in
    let turn = walk_turn 32 a.among k c.next.ensures.steps l.invariant.1 c.in-Some.is in
    let now = picked F pick m l.best c.key_of.result c.first_of-best.result turn.member c.key_of.ensures c.first_of-best.ensures in (
      m + 1,
      turn.ahead,
      best_again F pick (λ r h e. (p r e).2) k m l.best c.first_of-best.result turn.inside (first_skips F pick k m turn.next turn.skips) l.invariant.2 now,
    )

pub returns : goal.returns
returns c =
    let a = c.args in
    let F = tables_floor [] a.messages.now in
    let pick = has a.among in
    let l = c.loop-m in
    let k = l.invariant.0 in
    let none = walk_end 32 a.among k _ c.next.ensures.steps l.invariant.1 c.in-None.is in
    c.room_in.ensures ∙ ap room_code (best_all F pick k l.best (first_skips F pick k 32 l.invariant.1.within (λ r h n. none r h)) l.invariant.2)
