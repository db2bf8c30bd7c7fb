-- `wireless::send_acks_if_all` meets its contract.
use mathlib.Core.Path.{refl, sym, ◌∙◌}
use borrow.Author.Tests.{not-true, not-false}
use Rattle.protocol.proofs.Tests.{clash}
use Rattle.stations.specs.View.{stations_in}
use Rattle.wireless.specs.Handed.{hold_none}
use mathlib.Core.Bool.{not}
use mathlib.Core.Path.{ap}
use Rattle.wireless.proofs.send_acks_if_all.Goals as goal

pub returns-then-not-all_acked : goal.returns-then-not-all_acked
returns-then-not-all_acked c =
    let a = c.args in
    let X = stations_in a.stations.now in
    let held = c.all_acked in
    let some = sym held.ensures ∙ not-true _ (ap not c.if-not-all_acked.true) in
    record { yes = λ e. clash (hold_none X a.m a.station.0) e some; no = λ e. (refl, refl, refl); head = refl; words = refl }

pub send_acks-requires : goal.send_acks-requires
send_acks-requires c =
    let p = c.requires in
    record {
      has_station = p.has_station;
      lines_value = (p.lines_value.0, p.lines_value.1 (sym c.all_acked.ensures ∙ not-false _ (ap not c.if-not-all_acked.false)));
    }

pub returns : goal.returns
returns c =
    let a = c.args in
    let X = stations_in a.stations.now in
    let all = sym c.all_acked.ensures ∙ not-false _ (ap not c.if-not-all_acked.false) in
    let sent = c.send_acks.ensures in
    record {
      yes = λ e. (sent.stations, sent.lines, refl);
      no = λ e. clash (hold_none X a.m a.station.0) all e;
      head = sent.head;
      words = sent.words;
    }
