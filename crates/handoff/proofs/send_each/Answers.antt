use native.Mathlib.Omega.{arith}
use borrow.Author.Rules.{rules}
use Rattle.stations.specs.View.{stations_in}
use Rattle.messages.specs.View.{rooms_in}
use Rattle.handoff.proofs.ForwardLaws.{pushed_counts, sending_none, left_keyed, few_gone, next_is_lem, next_fits, sending_more, sending_all}
use Rattle.handoff.proofs.send_each.Goals as goal

pub loop-m-init : goal.loop-m-init
loop-m-init c =
    let a = c.args in
    sending_none a.stations.now a.messages.now a.lines.now a.station.0 a.among (omega arith)

pub first_among-requires : goal.first_among-requires
first_among-requires c =
    let a = c.args in
    let l = c.loop-m in
    left_keyed a.stations.now _ a.messages.now a.lines.now _ a.station.0 a.among l.left l.sent c.requires.has_station.2 l.invariant

pub without_member-left-requires : goal.without_member-left-requires
without_member-left-requires c =
    let a = c.args in
    let l = c.loop-m in
    let f = c.first_among in
    let n = next_is_lem a.stations.now _ a.messages.now a.lines.now _ a.station.0 a.among l.left l.sent c.requires.has_station.2 l.invariant c.in-Some.m c.in-Some.is f.ensures in
    omega (arith, n.inside)

pub initiator_of-initiator-requires : goal.initiator_of-initiator-requires
initiator_of-initiator-requires c =
    let a = c.args in
    let l = c.loop-m in
    let f = c.first_among in
    (next_is_lem a.stations.now _ a.messages.now a.lines.now _ a.station.0 a.among l.left l.sent c.requires.has_station.2 l.invariant c.in-Some.m c.in-Some.is f.ensures).there

pub number_of-number-requires : goal.number_of-number-requires
number_of-number-requires c =
    let a = c.args in
    let l = c.loop-m in
    let f = c.first_among in
    (next_is_lem a.stations.now _ a.messages.now a.lines.now _ a.station.0 a.among l.left l.sent c.requires.has_station.2 l.invariant c.in-Some.m c.in-Some.is f.ensures).there

pub send_acks-requires : goal.send_acks-requires
send_acks-requires c =
    let a = c.args in
    let p = c.requires in
    let l = c.loop-m in
    let f = c.first_among in
    let i = c.initiator_of-initiator.ensures in
    let x = c.number_of-number.ensures in
    let n = next_is_lem a.stations.now _ a.messages.now a.lines.now _ a.station.0 a.among l.left l.sent p.has_station.2 l.invariant c.in-Some.m c.in-Some.is f.ensures in
    let fits = next_fits a.stations.now _ a.messages.now a.lines.now _ a.station.0 a.among l.left l.sent p.has_station.2 l.invariant c.in-Some.m c.in-Some.is f.ensures p.lines_value.0 p.lines_value.1 in
    record {
      has_station = (omega (arith, p.has_station.0, l.invariant.words), p.has_station.1, n.inside, omega (arith, i, n.key.1), omega (arith, x, n.key.0));
      lines_value = fits;
    }

pub overflow_add-sent : goal.overflow_add-sent
overflow_add-sent c =
    let a = c.args in
    let l = c.loop-m in
    let few = few_gone a.stations.now _ a.messages.now a.lines.now _ a.station.0 a.among l.left l.sent c.requires.has_station.2 l.invariant in
    omega (arith, few)

pub loop-m-smaller : goal.loop-m-smaller
loop-m-smaller c =
    let a = c.args in
    let l = c.loop-m in
    let f = c.first_among in
    let w = c.without_member-left.ensures in
    let n = next_is_lem a.stations.now _ a.messages.now a.lines.now _ a.station.0 a.among l.left l.sent c.requires.has_station.2 l.invariant c.in-Some.m c.in-Some.is f.ensures in
    omega (arith, w, n.less)

pub loop-m-preserved : goal.loop-m-preserved
loop-m-preserved c =
    let a = c.args in
    let l = c.loop-m in
    let f = c.first_among in
    let w = c.without_member-left in
    let i = c.initiator_of-initiator in
    let x = c.number_of-number in
    let s = c.send_acks in
    sending_more a.stations.now _ a.messages.now a.lines.now _ a.station.0 a.among l.left l.sent c.requires.has_station.2 l.invariant c.in-Some.m c.in-Some.is f.ensures
    _ _ i.result.0 x.result.0 w.result w.ensures i.ensures x.ensures s.ensures

pub shape_of-lines : goal.shape_of-lines
shape_of-lines c =
    let a = c.args in
    let l = c.loop-m in
    (pushed_counts (stations_in a.stations.now) (rooms_in a.messages.now) a.station.0 l.invariant.gone a.lines.now _ c.requires.lines_value.0 l.invariant.lines).words

pub returns : goal.returns
returns c =
    let a = c.args in
    let l = c.loop-m in
    sending_all a.stations.now _ a.messages.now a.lines.now _ a.station.0 a.among l.left l.sent c.requires.has_station.2 (search rules) c.first_among.ensures l.invariant
