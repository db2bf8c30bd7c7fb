-- `tested_events::send_long` meets its contract.
use mathlib.Core.Path.{sym, ◌∙◌}
use borrow.Author.Rules.{rules}
use borrow.Author.Tests.{not-true}
use lib.ListN.{length}
use Rattle.products.proofs.Numbers.{product_of, its_numbers}
use Rattle.view.specs.View.{lent}
use Rattle.event_answers.proofs.Broken.{broken_send_long}
use Rattle.event_answers.proofs.Readies.{tested_ready}
use Rattle.tested_events.proofs.Long.{long_enough, not_too_long, other_length}
use mathlib.Core.Bool.{not}
use mathlib.Core.Path.{ap}
use Rattle.tested_events.proofs.send_long.Goals as goal

pub returns-then-is_not_long : goal.returns-then-is_not_long
returns-then-is_not_long c P e =
    let a = c.args in
    other_length (lent P a.stations.now a.carts.now a.messages.now a.lines.now a.texts.now a.store.now) a.station.0 a.set a.text.now (sym c.is_not_long.ensures ∙ c.if-is_not_long.true)

pub returns-then-not-passes : goal.returns-then-not-passes
returns-then-not-passes c P e =
    let a = c.args in
    let long = sym c.is_not_long.ensures ∙ c.if-is_not_long.false in
    broken_send_long (lent P a.stations.now a.carts.now a.messages.now a.lines.now a.texts.now a.store.now) _ (c.passes.ensures P e) (not-true _ (ap not c.if-not-passes.true)) a.station.0 a.set a.text.now
    (long_enough (length a.text.now) long) (not_too_long (length a.text.now) long)

pub send_long-requires : goal.send_long-requires
send_long-requires c =
    let a = c.args in
    let e = its_numbers a.bounds c.requires in
    let long = sym c.is_not_long.ensures ∙ c.if-is_not_long.false in
    record {
      ready_with = (product_of a.bounds c.requires, e, tested_ready _ _ (c.passes.ensures _ e) (ap not c.if-not-passes.false));
      in_bounds = (long_enough (length a.text.now) long, not_too_long (length a.text.now) long);
    }

pub returns : goal.returns
returns c P e = c.send_long.ensures P e (tested_ready _ _ (c.passes.ensures P e) (ap not c.if-not-passes.false))
