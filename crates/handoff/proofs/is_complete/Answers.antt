-- `handoff::is_complete` meets its contract.
use mathlib.Core.Path.{sym, ap, ◌∙◌}
use Prim.Native.Nat.{ℕ}
use native.Mathlib.Omega.{arith}
use borrow.Author.Tests.{not-true, not-false}
use Rattle.protocol.specs.CartSets.{has}
use Rattle.stations.specs.View.{stations_in}
use Rattle.messages.specs.View.{rooms_in}
use Rattle.handoff.proofs.ForwardLaws.{none_there, none_waits, waits_keyed, not_come, no_list, by_the_carts}
use mathlib.Core.Bool.{not}
use Rattle.handoff.proofs.is_complete.Goals as goal

pub returns-then-messages-m : goal.returns-then-messages-m
returns-then-messages-m c =
    let a = c.args in
    let p = c.requires in
    none_there (stations_in a.stations.now) a.messages.now a.station.0 a.m p.1 (omega (arith, c.if-messages-m.true))

pub returns-then-not-has : goal.returns-then-not-has
returns-then-not-has c =
    let a = c.args in
    let w = c.waiting_of in
    let h = c.has in
    none_waits (stations_in a.stations.now) (rooms_in a.messages.now) a.station.0 a.m
    (ap (λ (x : ℕ). has x a.station.0) (sym w.ensures) ∙ sym h.ensures ∙ not-true _ (ap not c.if-not-has.true))

pub expected_of-requires : goal.expected_of-requires
expected_of-requires c =
    let a = c.args in
    let p = c.requires in
    let w = c.waiting_of in
    let h = c.has in
    let i = c.initiator_of-initiator.ensures in
    let key =
    waits_keyed a.messages.now a.station.0 a.m p.1 (ap (λ (x : ℕ). has x a.station.0) (sym w.ensures) ∙ sym h.ensures ∙ not-false _ (ap not c.if-not-has.false)) in
    (p.0, omega (arith, i, key.1))

pub returns-then-expected_of-number : goal.returns-then-expected_of-number
returns-then-expected_of-number c =
    let a = c.args in
    let X = stations_in a.stations.now in
    let i = c.initiator_of-initiator.ensures in
    let n = c.number_of-number.ensures in
    let y = c.expected_of.ensures ∙ ap (X.expected a.station.0) i in
    not_come X (rooms_in a.messages.now) a.station.0 a.m (omega (arith, y, n, c.if-expected_of-number.true))

pub returns-then-acks_of-eq0 : goal.returns-then-acks_of-eq0
returns-then-acks_of-eq0 c =
    let a = c.args in
    no_list (stations_in a.stations.now) (rooms_in a.messages.now) a.station.0 a.m (sym c.acks_of.ensures ∙ c.if-acks_of-eq0.true)

pub returns : goal.returns
returns c =
    let a = c.args in
    let X = stations_in a.stations.now in
    let w = c.waiting_of in
    let h = c.has in
    let i = c.initiator_of-initiator.ensures in
    let n = c.number_of-number.ensures in
    let y = c.expected_of.ensures ∙ ap (X.expected a.station.0) i in
    by_the_carts X (rooms_in a.messages.now) a.station.0 a.m c.all_acked.result
    (ap (λ (x : ℕ). has x a.station.0) (sym w.ensures) ∙ sym h.ensures ∙ not-false _ (ap not c.if-not-has.false))
    (omega (arith, y, n, c.if-expected_of-number.false))
    (λ z. c.if-acks_of-eq0.false (c.acks_of.ensures ∙ z))
    c.all_acked.ensures
