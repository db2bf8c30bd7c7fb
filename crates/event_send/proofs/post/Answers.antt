-- `event_send::post` meets its contract.
use mathlib.Core.Path.{refl}
use Rattle.event_send.proofs.SendMeets.{on_send_asked, was_kept, was_posted}
use Rattle.event_send.proofs.post.Goals as goal

pub on_send-effect-requires : goal.on_send-effect-requires
on_send-effect-requires c =
    let a = c.args in
    let whole = on_send_asked a.stations.now a.messages.now a.lines.now a.m a.station.0 a.text.now _ _ c.station_count-n.ensures c.sent_of.ensures a.texts.now a.rows c.requires in
    record { stations_len = whole.0; room_lt_rooms = whole.1.0; lines_value = whole.1.1 }

pub returns : goal.returns
returns c =
    let a = c.args in
    let sent = c.on_send-effect.ensures in
    let n = c.station_count-n.ensures in
    let number = c.sent_of.ensures in
    record {
      kept = was_kept a.stations.now a.messages.now a.lines.now a.m a.station.0 a.text.now _ _ n number sent.kept;
      was_posted = was_posted a.stations.now a.messages.now a.lines.now a.m a.station.0 a.text.now _ _ n number _ _ refl sent.announced sent.value;
    }
