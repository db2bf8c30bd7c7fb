-- `tested_run::take_frames` meets its contract.
use mathlib.Core.Path.{refl}
use borrow.Author.Rules.{rules}
use Rattle.products.proofs.Numbers.{product_of, its_numbers}
use Rattle.view.specs.View.{lent}
use Rattle.event_answers.specs.Met.{Ready}
use Rattle.tested_run.specs.Stuck.{Stuck}
use Rattle.tested_run.proofs.StuckLaws.{ran_any}
use Rattle.tested_run.proofs.take_frames.Goals as goal

pub lengths_ok-lengths-requires : goal.lengths_ok-lengths-requires
lengths_ok-lengths-requires c = c.requires.0

pub is_stuck-requires : goal.is_stuck-requires
is_stuck-requires c = (c.requires.0, λ P n. c.lengths_ok-lengths.ensures P n)

pub refuse_frames-requires : goal.refuse_frames-requires
refuse_frames-requires c =
    let e = its_numbers c.args.bounds c.requires.0 in
    ((_, (c.is_stuck.ensures _ e).0 c.if-is_stuck.true), c.requires.2)

pub returns-then-is_stuck : goal.returns-then-is_stuck
returns-then-is_stuck c =
    let a = c.args in
    λ P n. ran_any (Stuck c.lengths_ok-lengths.result) a.input.now a.index a.last (lent P a.stations.now a.carts.now a.messages.now a.lines.now a.texts.now a.store.now) _ a.output.now _ _
    (c.refuse_frames.ensures.went_on _ ((c.is_stuck.ensures P n).0 c.if-is_stuck.true)) (λ _. refl)

pub take_ready-requires : goal.take_ready-requires
take_ready-requires c =
    let e = its_numbers c.args.bounds c.requires.0 in
    record {
      can_run = (c.requires.1, (product_of c.args.bounds c.requires.0, e, (c.is_stuck.ensures _ e).1 c.if-is_stuck.false));
      input_bound = c.requires.2;
    }

pub returns : goal.returns
returns c =
    let a = c.args in
    λ P n.
    let R = (c.is_stuck.ensures P n).1 c.if-is_stuck.false in
    ran_any Ready a.input.now a.index a.last (lent P a.stations.now a.carts.now a.messages.now a.lines.now a.texts.now a.store.now) _ a.output.now _ _
    (c.take_ready.ensures P n R) (λ no. absurd (no R))
