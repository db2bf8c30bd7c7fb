-- `tested_events::move_cart` meets its contract.
use borrow.Author.Rules.{rules}
use borrow.Author.Tests.{not-true}
use Rattle.products.proofs.Numbers.{product_of, its_numbers}
use Rattle.view.specs.View.{lent}
use Rattle.event_answers.proofs.Broken.{broken_move}
use Rattle.event_answers.proofs.Readies.{tested_ready}
use mathlib.Core.Bool.{not}
use mathlib.Core.Path.{ap}
use Rattle.tested_events.proofs.move_cart.Goals as goal

pub returns-then-not-passes : goal.returns-then-not-passes
returns-then-not-passes c P e =
    let a = c.args in
    broken_move (lent P a.stations.now a.carts.now a.messages.now a.lines.now a.texts.now a.store.now) _ (c.passes.ensures P e) (not-true _ (ap not c.if-not-passes.true)) a.cart.0 a.to.0

pub move_cart-requires : goal.move_cart-requires
move_cart-requires c = (product_of c.args.bounds c.requires, tested_ready _ _ (c.passes.ensures _ (its_numbers c.args.bounds c.requires)) (ap not c.if-not-passes.false))

pub returns : goal.returns
returns c P e = c.move_cart.ensures P (tested_ready _ _ (c.passes.ensures P e) (ap not c.if-not-passes.false))
