-- `dispatcher::next_step` meets its contract.
use native.Mathlib.Omega.{arith}
use borrow.Author.Rules.{rules}
use Rattle.dispatcher.proofs.Choices.{all_empty, from_low, row_some, wire_next}
use Rattle.dispatcher.proofs.next_step.Goals as goal

pub next_radio-requires : goal.next_radio-requires
next_radio-requires c = (c.requires.0.floor, c.requires.1)

pub returns-then-pending-eq0 : goal.returns-then-pending-eq0
returns-then-pending-eq0 c =
    let a = c.args in
    λ P W T O p right. c.next_radio.ensures P W T O p (all_empty P a.stations.now a.carts.now a.messages.now W T O p _ right c.if-pending-eq0.true)

pub offset_bounds-targets-i : goal.offset_bounds-targets-i
offset_bounds-targets-i c =
    let a = c.args in
    let f = c.requires.0.floor in
    let low = from_low f.product a.stations.now a.carts.now a.messages.now f.lines f.texts f.store f.passes _ c.requires.0.busy c.if-pending-eq0.false _ c.first-from.ensures in
    search rules

pub bounds-targets-i : goal.bounds-targets-i
bounds-targets-i c =
    let a = c.args in
    let f = c.requires.0.floor in
    let size = c.requires.0.busy.shaped.size in
    let low = from_low f.product a.stations.now a.carts.now a.messages.now f.lines f.texts f.store f.passes _ c.requires.0.busy c.if-pending-eq0.false _ c.first-from.ensures in
    omega (arith, size, low)

pub first-to-requires : goal.first-to-requires
first-to-requires c =
    let a = c.args in
    let f = c.requires.0.floor in
    row_some f.product a.stations.now a.carts.now a.messages.now f.lines f.texts f.store f.passes _ c.requires.0.busy c.if-pending-eq0.false _ c.first-from.ensures

pub returns : goal.returns
returns c =
    let a = c.args in
    λ P W T O p right. wire_next P a.stations.now a.carts.now a.messages.now W T O p _ right c.if-pending-eq0.false _ c.first-from.ensures _ c.first-to.ensures
