-- `tested_events::radio` meets its contract.
use lib.ListN.{length}
use borrow.Author.Rules.{rules}
use borrow.Author.Tests.{not-true}
use Rattle.refusals.specs.declared.Refusal.TheVariants.{NotReady}
use Rattle.products.proofs.Numbers.{product_of, its_numbers}
use Rattle.view.specs.View.{lent}
use Rattle.event_answers.proofs.Broken.{broken_radio}
use Rattle.event_answers.proofs.Delivers.{delivers_refused}
use Rattle.event_answers.proofs.Readies.{tested_ready}
use mathlib.Core.Bool.{not}
use mathlib.Core.Path.{ap}
use Rattle.tested_events.proofs.radio.Goals as goal

pub returns-then-not-passes : goal.returns-then-not-passes
returns-then-not-passes c P e =
    let a = c.args in
    let L = lent P a.stations.now a.carts.now a.messages.now a.lines.now a.texts.now a.store.now in
    delivers_refused L L a.station.0 a.cart.0 a.buffer.now NotReady
    (broken_radio L _ (c.passes.ensures P e) (not-true _ (ap not c.if-not-passes.true)) a.station.0 a.cart.0 (length a.buffer.now))

pub radio_into-requires : goal.radio_into-requires
radio_into-requires c = (product_of c.args.bounds c.requires, tested_ready _ _ (c.passes.ensures _ (its_numbers c.args.bounds c.requires)) (ap not c.if-not-passes.false))

pub returns : goal.returns
returns c P e = c.radio_into.ensures P (tested_ready _ _ (c.passes.ensures P e) (ap not c.if-not-passes.false))
