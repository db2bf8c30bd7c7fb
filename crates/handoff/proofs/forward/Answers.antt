-- `handoff::forward` meets its contract.
use native.Mathlib.Omega.{arith}
use Rattle.handoff.proofs.ForwardLaws.{all_keyed, as_many, all_forwarded}
use Rattle.handoff.proofs.forward.Goals as goal

pub send_each-requires : goal.send_each-requires
send_each-requires c =
    let a = c.args in
    let p = c.requires in
    let x = c.complete_rooms-complete in
    let many = as_many a.stations.now a.messages.now a.station.0 x.result p.has_station.2 x.ensures in
    record {
      has_station = (p.has_station.0, p.has_station.1, all_keyed a.stations.now a.messages.now a.station.0 x.result p.has_station.2 x.ensures);
      lines_value = (p.lines_value.0, omega (arith, p.lines_value.1, many));
    }

pub returns : goal.returns
returns c =
    let a = c.args in
    let p = c.requires in
    let x = c.complete_rooms-complete in
    all_forwarded a.stations.now a.messages.now a.station.0 x.result p.has_station.2 x.ensures _ a.lines.now _ _ c.send_each.ensures
