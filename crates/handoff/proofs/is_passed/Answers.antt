-- `handoff::is_passed` meets its contract.
use borrow.Author.Tests.{not-true, not-false}
use Rattle.stations.specs.View.{stations_in}
use Rattle.messages.specs.View.{rooms_in}
use Rattle.handoff.proofs.PassedLaws.{not_waiting, not_handled, by_next}
use mathlib.Core.Bool.{not}
use mathlib.Core.Path.{ap}
use Rattle.handoff.proofs.is_passed.Goals as goal

pub returns-then-not-has : goal.returns-then-not-has
returns-then-not-has c =
    let a = c.args in
    let w = c.waiting_of in
    let h = c.has in
    not_waiting (stations_in a.stations.now) (rooms_in a.messages.now) a.station.0 a.m a.next w.result h.result w.ensures h.ensures
    (not-true _ (ap not c.if-not-has.true))

pub returns-then-expected_of-number : goal.returns-then-expected_of-number
returns-then-expected_of-number c =
    let a = c.args in
    let n = c.number_of-number in
    let y = c.expected_of in
    not_handled (stations_in a.stations.now) (rooms_in a.messages.now) a.station.0 a.m a.next a.initiator.0 n.result.0 y.result
    c.requires.initiator_value n.ensures y.ensures c.if-expected_of-number.true

pub returns : goal.returns
returns c =
    let a = c.args in
    let w = c.waiting_of in
    let h = c.has in
    let n = c.number_of-number in
    let y = c.expected_of in
    by_next (stations_in a.stations.now) (rooms_in a.messages.now) a.station.0 a.m a.next w.result a.initiator.0 n.result.0 y.result h.result
    w.ensures c.requires.initiator_value n.ensures y.ensures h.ensures (not-false _ (ap not c.if-not-has.false)) c.if-expected_of-number.false
