-- `tested_run::is_stuck` meets its contract.
use borrow.Author.Rules.{rules}
use borrow.Author.Tests.{not-false}
use Rattle.products.proofs.Numbers.{product_of, its_numbers}
use Rattle.view.specs.View.{lent}
use Rattle.event_start.proofs.Starts.{has_head}
use Rattle.tested_run.proofs.StuckLaws.{wrong_lengths, not_started, started}
use mathlib.Core.Bool.{not}
use mathlib.Core.Path.{ap}
use Rattle.tested_run.proofs.is_stuck.Goals as goal

pub returns-then-not-lengths : goal.returns-then-not-lengths
returns-then-not-lengths c =
    let a = c.args in
    λ P n. wrong_lengths (lent P a.stations.now a.carts.now a.messages.now a.lines.now a.texts.now a.store.now) a.lengths (c.requires.1 P n) (ap not c.if-not-lengths.true)

pub is_started-requires : goal.is_started-requires
is_started-requires c =
    let a = c.args in
    let P = product_of a.bounds c.requires.0 in
    has_head P a.stations.now a.carts.now a.messages.now a.lines.now a.texts.now a.store.now 0 0 _ (c.requires.1 P (its_numbers a.bounds c.requires.0)) (not-false _ (ap not c.if-not-lengths.false))

pub returns-then-not-is_started : goal.returns-then-not-is_started
returns-then-not-is_started c =
    let a = c.args in
    λ P n. not_started (lent P a.stations.now a.carts.now a.messages.now a.lines.now a.texts.now a.store.now) a.lengths (c.requires.1 P n) (ap not c.if-not-lengths.false) _ c.is_started.ensures (ap not c.if-not-is_started.true)

pub returns : goal.returns
returns c =
    let a = c.args in
    λ P n. started (lent P a.stations.now a.carts.now a.messages.now a.lines.now a.texts.now a.store.now) a.lengths (c.requires.1 P n) (ap not c.if-not-lengths.false) _ c.is_started.ensures (ap not c.if-not-is_started.false) _ (c.passes.ensures P n)
