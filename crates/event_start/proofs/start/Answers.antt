-- `event_start::start` meets its contract.
use mathlib.Core.Path.{sym, ◌∙◌}
use borrow.Author.Tests.{not-true, not-false}
use Rattle.protocol.specs.Floor.{limits_of}
use Rattle.products.proofs.Numbers.{product_of, its_numbers}
use Rattle.event_start.proofs.Starts.{start_lengths, has_head, start_begun, start_size, start_fits, meets_start}
use mathlib.Core.Bool.{not}
use mathlib.Core.Path.{ap}
use Rattle.event_start.proofs.start.Goals as goal

pub lengths_ok-requires : goal.lengths_ok-requires
lengths_ok-requires c = c.requires

pub returns-then-not-lengths_ok : goal.returns-then-not-lengths_ok
returns-then-not-lengths_ok c =
    let a = c.args in
    λ P e. start_lengths P a.stations.now a.carts.now a.messages.now a.lines.now a.texts.now a.store.now a.n a.k _ (c.lengths_ok.ensures P e) (not-true _ (ap not c.if-not-lengths_ok.true))

pub mark_of-requires : goal.mark_of-requires
mark_of-requires c =
    let a = c.args in
    let P = product_of a.bounds c.requires in
    let e = its_numbers a.bounds c.requires in
    has_head P a.stations.now a.carts.now a.messages.now a.lines.now a.texts.now a.store.now a.n a.k _ (c.lengths_ok.ensures P e) (not-false _ (ap not c.if-not-lengths_ok.false))

pub returns-then-mark_of-eq-STARTED : goal.returns-then-mark_of-eq-STARTED
returns-then-mark_of-eq-STARTED c =
    let a = c.args in
    λ P e. start_begun P a.stations.now a.carts.now a.messages.now a.lines.now a.texts.now a.store.now a.n a.k _ (c.lengths_ok.ensures P e) (not-false _ (ap not c.if-not-lengths_ok.false)) (sym c.mark_of.ensures ∙ c.if-mark_of-eq-STARTED.true)

pub returns-then-wrong_size : goal.returns-then-wrong_size
returns-then-wrong_size c =
    let a = c.args in
    λ P e. start_size P a.stations.now a.carts.now a.messages.now a.lines.now a.texts.now a.store.now a.n a.k _ (c.lengths_ok.ensures P e) (not-false _ (ap not c.if-not-lengths_ok.false)) (λ z. c.if-mark_of-eq-STARTED.false (c.mark_of.ensures ∙ z)) _ (c.wrong_size.ensures (limits_of P) e.stations_are e.carts_are) c.if-wrong_size.true

pub start_floor-requires : goal.start_floor-requires
start_floor-requires c =
    let a = c.args in
    let P = product_of a.bounds c.requires in
    let e = its_numbers a.bounds c.requires in
    start_fits P a.stations.now a.carts.now a.messages.now a.lines.now a.texts.now a.store.now a.n a.k _ (c.lengths_ok.ensures P e) (not-false _ (ap not c.if-not-lengths_ok.false)) (λ z. c.if-mark_of-eq-STARTED.false (c.mark_of.ensures ∙ z)) _ (c.wrong_size.ensures (limits_of P) e.stations_are e.carts_are)

pub returns : goal.returns
returns c =
    let a = c.args in
    λ P e. meets_start P a.stations.now a.carts.now a.messages.now a.lines.now a.texts.now a.store.now a.n a.k _ (c.lengths_ok.ensures P e) (not-false _ (ap not c.if-not-lengths_ok.false)) (λ z. c.if-mark_of-eq-STARTED.false (c.mark_of.ensures ∙ z)) _ (c.wrong_size.ensures (limits_of P) e.stations_are e.carts_are) c.if-wrong_size.false _ _ _ _ _ c.start_floor.ensures c.nothing.ensures
