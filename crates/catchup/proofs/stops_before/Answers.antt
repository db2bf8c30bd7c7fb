-- `catchup::stops_before` meets its contract.
use Rattle.messages.specs.View.{rooms_in}
use Rattle.catchup.proofs.StopLaws.{not_before, not_so_far, by_waiting}
use Rattle.catchup.proofs.stops_before.Goals as goal

pub returns-then-upto-number : goal.returns-then-upto-number
returns-then-upto-number c =
    let a = c.args in
    let n = c.number_of-number in
    not_before (rooms_in a.messages.now) a.station.0 a.m a.next a.upto n.result.0 n.ensures c.if-upto-number.true

pub returns-then-number-next : goal.returns-then-number-next
returns-then-number-next c =
    let a = c.args in
    let n = c.number_of-number in
    not_so_far (rooms_in a.messages.now) a.station.0 a.m a.next a.upto n.result.0 n.ensures c.if-number-next.true

pub returns : goal.returns
returns c =
    let a = c.args in
    let n = c.number_of-number in
    let w = c.waiting_of in
    by_waiting (rooms_in a.messages.now) a.station.0 a.m a.next a.upto n.result.0 n.ensures w.result c.has.result
    c.if-upto-number.false c.if-number-next.false w.ensures c.has.ensures
