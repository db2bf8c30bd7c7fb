-- `event_send::post_long` meets its contract.
use mathlib.Core.Path.{refl}
use Rattle.event_send.proofs.SendMeets.{on_send_long_asked, was_kept_long, was_posted}
use Rattle.event_send.proofs.post_long.Goals as goal

pub on_send_long-effect-requires : goal.on_send_long-effect-requires
on_send_long-effect-requires c =
    let a = c.args in
    let whole = on_send_long_asked a.stations.now a.messages.now a.lines.now a.m a.station.0 a.text.now _ _ c.station_count-n.ensures c.sent_of.ensures a.store.now a.bounds c.requires in
    record { stations_len = whole.0; room_lt_rooms = whole.1.0; lines_value = whole.1.1 }

pub returns : goal.returns
returns c =
    let a = c.args in
    let sent = c.on_send_long-effect.ensures in
    let n = c.station_count-n.ensures in
    let number = c.sent_of.ensures in
    record {
      kept_long = was_kept_long a.stations.now a.messages.now a.lines.now a.m a.station.0 a.text.now _ _ n number sent.kept_long;
      was_posted = was_posted a.stations.now a.messages.now a.lines.now a.m a.station.0 a.text.now _ _ n number _ _ refl sent.announced sent.value;
    }
