-- `wired_send::start_floor` meets its contract.
use mathlib.Core.Path.{ap, ◌∙◌}
use Rattle.stations.specs.View.{Head, head}
use Rattle.wired_send.proofs.start_floor.Goals as goal

pub returns : goal.returns
returns c =
    let x = c.clear_stations.ensures in
    let y = c.put_head.ensures in
    let k = c.clear_carts.ensures in
    let m = c.clear_messages.ensures in
    let a = c.args in
    record {
      top = y.stations_after ∙ ap (λ (H : Head). head 1 a.n a.k H.groups) x.stations_after_2;
      stations = y.stations_unchanged ∙ x.stations_after;
      station_words = y.stations_len_unchanged ∙ x.stations_len_unchanged;
      carts = k.carts_after;
      canonical = k.carts_after_2;
      cart_words = k.carts_len_unchanged;
      rooms = m.messages_after;
      room_words = m.messages_len_unchanged;
      lines = c.clear.ensures;
    }
