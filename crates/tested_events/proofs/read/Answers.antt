-- `tested_events::read` meets its contract.
use mathlib.Core.Path.{sym, ◌∙◌}
use borrow.Author.Rules.{rules}
use borrow.Author.Tests.{not-true, not-false}
use Rattle.products.proofs.Numbers.{product_of, its_numbers}
use Rattle.view.specs.View.{lent}
use Rattle.reading.proofs.PartLaws.{read_broken, read_asks}
use mathlib.Core.Bool.{not}
use mathlib.Core.Path.{ap}
use Rattle.tested_events.proofs.read.Goals as goal

pub read-requires : goal.read-requires
read-requires c =
    let a = c.args in
    let passes = sym (c.passes.ensures _ (its_numbers a.bounds c.requires)) ∙ c.if-passes.true in
    read_asks (lent (product_of a.bounds c.requires) a.stations.now a.carts.now a.messages.now a.lines.now a.texts.now a.store.now) passes

pub returns-then-passes : goal.returns-then-passes
returns-then-passes c P e =
    let a = c.args in
    c.read.ensures P a.carts.now a.lines.now a.texts.now a.store.now e.held_is (sym (c.passes.ensures P e) ∙ c.if-passes.true)

pub returns : goal.returns
returns c P e =
    let a = c.args in
    read_broken (lent P a.stations.now a.carts.now a.messages.now a.lines.now a.texts.now a.store.now) a.initiator.0 a.number.0 (sym (c.passes.ensures P e) ∙ c.if-passes.false)
