use mathlib.Core.Path.{◌∙◌}
use Prim.Native.Nat.{◌+◌, ◌<◌}
use native.Mathlib.Omega.{arith}
use borrow.Author.Rules.{rules}
use Rattle.queue.proofs.Steps.{walk_start, walk_turn, walk_end}
use Rattle.dispatcher.proofs.Choices.{word_below, found_steady, none_steady, not_steady_on}
use Rattle.dispatcher.proofs.lowest_steady.Goals as goal

pub loop-c-init : goal.loop-c-init
loop-c-init c =
    let a = c.args in
    let small : a.set < 18446744073709551616 = search rules in
    (0, walk_start 64 a.set (c.into_iter-c-iterator.ensures.into_iter_gives ∙ c.members_of-c-items.ensures) (omega arith) (word_below a.set (omega arith)), λ d l. absurd (omega arith))

pub is_steady-requires : goal.is_steady-requires
is_steady-requires c =
    let l = c.loop-c in
    let turn = walk_turn 64 c.args.set l.invariant.0 c.next.ensures.steps l.invariant.1 c.in-Some.is in
    c.requires c.in-Some.c turn.member

pub returns-then-is_steady : goal.returns-then-is_steady
returns-then-is_steady c =
    let a = c.args in
    let l = c.loop-c in
    let turn = walk_turn 64 a.set l.invariant.0 c.next.ensures.steps l.invariant.1 c.in-Some.is in
    found_steady a.carts.now a.set l.c-iterator.left l.invariant.0 l.invariant.2 c.in-Some.c _ turn _ c.is_steady.ensures c.if-is_steady.true

pub loop-c-preserved : goal.loop-c-preserved
loop-c-preserved c =
    let a = c.args in
    let l = c.loop-c in
    let turn = walk_turn 64 a.set l.invariant.0 c.next.ensures.steps l.invariant.1 c.in-Some.is in
    (c.in-Some.c + 1, turn.ahead, not_steady_on a.carts.now a.set l.c-iterator.left l.invariant.0 l.invariant.2 c.in-Some.c _ turn _ c.is_steady.ensures c.if-is_steady.false)

pub returns : goal.returns
returns c =
    let a = c.args in
    let l = c.loop-c in
    none_steady a.carts.now a.set l.c-iterator.left l.invariant.0 l.invariant.2 (walk_end 64 a.set l.invariant.0 _ c.next.ensures.steps l.invariant.1 c.in-None.is)
