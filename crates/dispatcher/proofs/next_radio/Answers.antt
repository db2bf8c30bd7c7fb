use mathlib.Core.Path.{ap, sym, ◌∙◌}
use Prim.Native.Nat.{◌+◌, ◌<◌}
use native.Mathlib.Omega.{arith}
use borrow.Author.Rules.{rules}
use Rattle.queue.proofs.Steps.{walk_start, walk_turn, walk_end}
use Rattle.dispatcher.specs.Choice.{cart_in}
use Rattle.dispatcher.proofs.Choices.{word_below, radio_found, nobody_found, nothing_found}
use Rattle.dispatcher.proofs.next_radio.Goals as goal

pub loop-t-init : goal.loop-t-init
loop-t-init c =
    let a = c.args in
    let small : a.queued < 18446744073709551616 = search rules in
    (0, walk_start 64 a.queued (c.into_iter-t-iterator.ensures.into_iter_gives ∙ c.members_of-t-items.ensures) (omega arith) (word_below a.queued (omega arith)), λ P W T O p empty k l. absurd (omega arith))

pub receiver_at-requires : goal.receiver_at-requires
receiver_at-requires c =
    let l = c.loop-t in
    let turn = walk_turn 64 c.args.queued l.invariant.0 c.next.ensures.steps l.invariant.1 c.in-Some.is in
    (c.requires.0, c.requires.1.on_floor c.in-Some.t turn.member)

pub returns-in-Some-receiver_at : goal.returns-in-Some-receiver_at
returns-in-Some-receiver_at c =
    let a = c.args in
    let l = c.loop-t in
    let turn = walk_turn 64 a.queued l.invariant.0 c.next.ensures.steps l.invariant.1 c.in-Some.is in
    λ P W T O p empty. radio_found P a.stations.now a.carts.now a.messages.now W T O p empty a.queued l.t-iterator.left l.invariant.0 c.requires.1 (l.invariant.2 P W T O p empty) c.in-Some.t _ turn _ (sym (c.receiver_at.ensures P W T O p empty) ∙ ap cart_in c.in-Some-receiver_at.is)

pub loop-t-preserved : goal.loop-t-preserved
loop-t-preserved c =
    let a = c.args in
    let l = c.loop-t in
    let turn = walk_turn 64 a.queued l.invariant.0 c.next.ensures.steps l.invariant.1 c.in-Some.is in
    (c.in-Some.t + 1, turn.ahead, λ P W T O p empty. nobody_found P a.stations.now a.carts.now a.messages.now W T O p empty a.queued l.t-iterator.left l.invariant.0 c.requires.1 (l.invariant.2 P W T O p empty) c.in-Some.t _ turn (sym (c.receiver_at.ensures P W T O p empty) ∙ ap cart_in c.in_default.is))

pub returns : goal.returns
returns c =
    let a = c.args in
    let l = c.loop-t in
    λ P W T O p empty. nothing_found P a.stations.now a.carts.now a.messages.now W T O p empty a.queued l.t-iterator.left l.invariant.0 c.requires.1 (l.invariant.2 P W T O p empty) (walk_end 64 a.queued l.invariant.0 _ c.next.ensures.steps l.invariant.1 c.in-None.is)
