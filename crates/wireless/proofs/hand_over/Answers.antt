-- `wireless::hand_over` meets its contract.
use mathlib.Core.Path.{sym, ap, ◌∙◌}
use native.Mathlib.Omega.{arith}
use Rattle.stations.specs.View.{Stations}
use Rattle.wireless.specs.Handed.{hold_none}
use Rattle.queue.specs.Rooms.{room_count}
use Rattle.wireless.proofs.Parts.{acks_beyond}
use Rattle.wireless.proofs.hand_over.Goals as goal

pub send_acks_if_all-records-requires : goal.send_acks_if_all-records-requires
send_acks_if_all-records-requires c =
    let a = c.args in
    let p = c.requires in
    let r = c.receive-next.ensures in
    record {
      has_station = (omega (arith, r.words, p.has_station.0), p.has_station.1, omega (arith, p.has_station.2, p.has_station.5), p.has_station.3, p.has_station.4);
      lines_value = (p.lines_value.0, λ e. p.lines_value.1 (sym (ap (λ (X : Stations). hold_none X a.m a.station.0) r.stations) ∙ e));
    }

pub catch_up-caught-requires : goal.catch_up-caught-requires
catch_up-caught-requires c =
    let a = c.args in
    let p = c.requires in
    let r = c.receive-next in
    let k = c.send_acks_if_all-records in
    record {
      has_station = (omega (arith, k.ensures.words, r.ensures.words, p.has_station.0), p.has_station.5, p.has_station.1, p.has_station.3, p.has_row.1, omega (arith, r.ensures.rows, p.has_row.0));
      by_index = acks_beyond _ _ _ _ a.m a.initiator.0 a.n.0 a.station.0 k.result (room_count a.messages.now) k.ensures p.has_station.2
          (λ q l. ap (λ (X : Stations). X.copy q a.station.0) r.ensures.stations ∙ p.by_index q l);
    }

pub returns : goal.returns
returns c =
    let received = c.receive-next in
    let sent = c.send_acks_if_all-records in
    record {
      S₁ = received.new.stations;
      C₁ = received.new.carts;
      S₂ = sent.new.stations;
      next = received.result;
      received = received.ensures;
      acks = sent.ensures;
      caught = c.catch_up-caught.ensures;
    }
