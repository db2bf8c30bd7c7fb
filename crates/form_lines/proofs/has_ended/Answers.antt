-- `form_lines::has_ended` meets its contract. A free room passes, a cart that is not named does not, and else the walk over the carts decides.
use borrow.Author.Tests.{not-true, not-false}
use mathlib.Core.Path.{ap, ◌∙◌}
use mathlib.Core.Bool.{◌&&◌}
use Prim.Native.Nat.{ℕ}
use Rattle.sets.specs.Masks.{within}
use Rattle.carts.specs.View.{carts_in}
use Rattle.messages.specs.View.{rooms_in}
use Rattle.form_lines.specs.Pass.{passed}
use Rattle.form_lines.proofs.CodeLaws.{room_there}
use Rattle.form_lines.proofs.PassLaws.{ended_free, ended_stranger, ended_named, past_passed}
use mathlib.Core.Bool.{not}
use Rattle.form_lines.proofs.has_ended.Goals as goal

pub waiting_by-requires : goal.waiting_by-requires
waiting_by-requires c = let p = c.requires in (p.0, p.3)

pub returns-then-waiting_by-eq0 : goal.returns-then-waiting_by-eq0
returns-then-waiting_by-eq0 c =
    let a = c.args in
    let R = rooms_in a.messages.now in
    let w = c.waiting_by in
    ended_free R a.m w.result (within 64 a.set (R.named a.m) && passed a.k (carts_in a.carts.now) R a.m a.set) w.ensures c.if-waiting_by-eq0.true

pub named_of-requires : goal.named_of-requires
named_of-requires c =
    let w = c.waiting_by in
    room_there c.args.messages.now c.requires.0 c.args.m (λ z. c.if-waiting_by-eq0.false (w.ensures ∙ z))

pub returns-then-not-is_within : goal.returns-then-not-is_within
returns-then-not-is_within c =
    let a = c.args in
    let R = rooms_in a.messages.now in
    let w = c.waiting_by in
    let t = c.is_within in
    ended_stranger R a.m w.result t.result (within 64 a.set (R.named a.m)) (passed a.k (carts_in a.carts.now) R a.m a.set) w.ensures c.if-waiting_by-eq0.false
    (t.ensures ∙ ap (λ (x : ℕ). within 64 a.set x) c.named_of.ensures) (not-true _ (ap not c.if-not-is_within.true))

pub initiator_of-s-requires : goal.initiator_of-s-requires
initiator_of-s-requires c =
    let w = c.waiting_by in
    room_there c.args.messages.now c.requires.0 c.args.m (λ z. c.if-waiting_by-eq0.false (w.ensures ∙ z))

pub number_of-n-requires : goal.number_of-n-requires
number_of-n-requires c =
    let w = c.waiting_by in
    room_there c.args.messages.now c.requires.0 c.args.m (λ z. c.if-waiting_by-eq0.false (w.ensures ∙ z))

pub returns : goal.returns
returns c =
    let a = c.args in
    let R = rooms_in a.messages.now in
    let C = carts_in a.carts.now in
    let w = c.waiting_by in
    let t = c.is_within in
    let s = c.initiator_of-s in
    let n = c.number_of-n in
    let p = c.all_past in
    ended_named R a.m w.result t.result (within 64 a.set (R.named a.m)) p.result (passed a.k C R a.m a.set) w.ensures c.if-waiting_by-eq0.false
    (t.ensures ∙ ap (λ (x : ℕ). within 64 a.set x) c.named_of.ensures) (not-false _ (ap not c.if-not-is_within.false))
    (past_passed a.k C R a.m a.set s.result.0 n.result.0 p.result s.ensures n.ensures p.ensures)
