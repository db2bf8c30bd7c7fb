-- `tested_events::quiet` meets its contract.
use mathlib.Core.Path.{sym, ◌∙◌}
use native.Mathlib.Omega.{arith}
use borrow.Author.Rules.{rules}
use borrow.Author.Tests.{not-true, not-false}
use Rattle.products.proofs.Numbers.{product_of, its_numbers}
use Rattle.view.specs.View.{lent}
use Rattle.dispatcher.proofs.CalledLaws.{quiet_broken, quiet_short, quiet_ran}
use mathlib.Core.Bool.{not}
use mathlib.Core.Path.{ap}
use Rattle.tested_events.proofs.quiet.Goals as goal

pub returns-then-not-passes : goal.returns-then-not-passes
returns-then-not-passes c P e =
    let a = c.args in
    quiet_broken (lent P a.stations.now a.carts.now a.messages.now a.lines.now a.texts.now a.store.now) a.buffer.now (sym (c.passes.ensures P e) ∙ not-true _ (ap not c.if-not-passes.true))

pub returns-then-buffer-lt-LONG : goal.returns-then-buffer-lt-LONG
returns-then-buffer-lt-LONG c P e =
    let a = c.args in
    quiet_short (lent P a.stations.now a.carts.now a.messages.now a.lines.now a.texts.now a.store.now) a.buffer.now (sym (c.passes.ensures P e) ∙ not-false _ (ap not c.if-not-passes.false)) (omega (arith, c.if-buffer-lt-LONG.true))

pub run_until_quiet-requires : goal.run_until_quiet-requires
run_until_quiet-requires c =
    let passes = sym (c.passes.ensures _ (its_numbers c.args.bounds c.requires)) ∙ not-false _ (ap not c.if-not-passes.false) in
    ((product_of c.args.bounds c.requires, passes), omega (arith, c.if-buffer-lt-LONG.false))

pub returns : goal.returns
returns c P e =
    let a = c.args in
    let passes = sym (c.passes.ensures P e) ∙ not-false _ (ap not c.if-not-passes.false) in
    quiet_ran (lent P a.stations.now a.carts.now a.messages.now a.lines.now a.texts.now a.store.now) a.buffer.now passes _ _ _ (omega (arith, c.if-buffer-lt-LONG.false)) (c.run_until_quiet.ensures P passes)
