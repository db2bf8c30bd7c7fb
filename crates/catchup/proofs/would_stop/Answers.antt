-- `catchup::would_stop` meets its contract.
use Rattle.std.proofs.Common.{rules, tests}
use borrow.Author.Tests.{not-true, not-false}
use Rattle.queue.specs.Rooms.{tables_floor}
use Rattle.catchup.proofs.StopLaws.{not_held, not_from, not_waiting, not_handled, not_in_copy, by_number}
use mathlib.Core.Bool.{not}
use mathlib.Core.Path.{ap}
use Rattle.catchup.proofs.would_stop.Goals as goal

pub returns-then-waiting-eq0 : goal.returns-then-waiting-eq0
returns-then-waiting-eq0 c =
    let a = c.args in
    let F = tables_floor a.stations.now a.messages.now in
    not_held F a.station.0 a.cart.0 a.initiator.0 a.next a.m c.waiting_of-waiting.result c.waiting_of-waiting.ensures
    c.if-waiting-eq0.true

pub returns-then-ne : goal.returns-then-ne
returns-then-ne c =
    let a = c.args in
    let F = tables_floor a.stations.now a.messages.now in
    not_from F a.station.0 a.cart.0 a.initiator.0 a.next a.m c.initiator_of.result.0
    c.initiator_of.ensures (search (rules, tests))

pub returns-then-not-has : goal.returns-then-not-has
returns-then-not-has c =
    let a = c.args in
    let F = tables_floor a.stations.now a.messages.now in
    not_waiting F a.station.0 a.cart.0 a.initiator.0 a.next a.m
    c.waiting_of-waiting.result
    c.waiting_of-waiting.ensures c.has.result c.has.ensures
    (not-true _ (ap not c.if-not-has.true))

pub returns-then-expected_of-number : goal.returns-then-expected_of-number
returns-then-expected_of-number c =
    let a = c.args in
    let F = tables_floor a.stations.now a.messages.now in
    not_handled F a.station.0 a.cart.0 a.initiator.0 a.next a.m c.number_of-number.result.0
    c.expected_of.result c.number_of-number.ensures c.expected_of.ensures c.if-expected_of-number.true

pub returns-then-not-has-2 : goal.returns-then-not-has-2
returns-then-not-has-2 c =
    let a = c.args in
    let F = tables_floor a.stations.now a.messages.now in
    not_in_copy F a.station.0 a.cart.0 a.initiator.0 a.next a.m c.copy_of.result c.has-2.result
    c.copy_of.ensures c.has-2.ensures (not-true _ (ap not c.if-not-has-2.true))

pub returns : goal.returns
returns c =
    let a = c.args in
    let F = tables_floor a.stations.now a.messages.now in
    by_number F a.station.0 a.cart.0 a.initiator.0 a.next a.m
    c.waiting_of-waiting.result
    c.initiator_of.result.0
    c.number_of-number.result.0 c.expected_of.result
    c.copy_of.result c.has.result c.has-2.result
    c.waiting_of-waiting.ensures
    c.initiator_of.ensures
    c.number_of-number.ensures c.expected_of.ensures
    c.copy_of.ensures c.has.ensures c.has-2.ensures
    c.if-waiting-eq0.false
    (search (rules, tests))
    (not-false _ (ap not c.if-not-has.false)) c.if-expected_of-number.false (not-false _ (ap not c.if-not-has-2.false))
