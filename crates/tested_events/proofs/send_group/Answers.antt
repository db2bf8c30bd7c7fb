-- `tested_events::send_group` meets its contract.
use mathlib.Core.Path.{sym, ◌∙◌}
use borrow.Author.Rules.{rules}
use borrow.Author.Tests.{ltb-true, ltb-false, not-true}
use lib.ListN.{length}
use Rattle.products.proofs.Numbers.{product_of, its_numbers}
use Rattle.view.specs.View.{lent}
use Rattle.event_answers.proofs.Broken.{long_send_group, broken_send_group}
use Rattle.event_answers.proofs.Readies.{tested_ready}
use mathlib.Core.Bool.{not}
use mathlib.Core.Path.{ap}
use Rattle.tested_events.proofs.send_group.Goals as goal

pub returns-then-is_too_long : goal.returns-then-is_too_long
returns-then-is_too_long c P e =
    let a = c.args in
    long_send_group (lent P a.stations.now a.carts.now a.messages.now a.lines.now a.texts.now a.store.now) a.station.0 a.group a.text.now (ltb-true 32 (length a.text.now) (sym c.is_too_long.ensures ∙ c.if-is_too_long.true))

pub returns-then-not-passes : goal.returns-then-not-passes
returns-then-not-passes c P e =
    let a = c.args in
    broken_send_group (lent P a.stations.now a.carts.now a.messages.now a.lines.now a.texts.now a.store.now) _ (c.passes.ensures P e) (not-true _ (ap not c.if-not-passes.true)) a.station.0 a.group a.text.now
    (ltb-false 32 (length a.text.now) (sym c.is_too_long.ensures ∙ c.if-is_too_long.false))

pub send_group-requires : goal.send_group-requires
send_group-requires c =
    let a = c.args in
    let e = its_numbers a.bounds c.requires in
    record {
      ready_with = (product_of a.bounds c.requires, e, tested_ready _ _ (c.passes.ensures _ e) (ap not c.if-not-passes.false));
      text_len_bound = ltb-false 32 (length a.text.now) (sym c.is_too_long.ensures ∙ c.if-is_too_long.false);
    }

pub returns : goal.returns
returns c P e = c.send_group.ensures P e (tested_ready _ _ (c.passes.ensures P e) (ap not c.if-not-passes.false))
