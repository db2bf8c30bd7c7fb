-- `wireless::receive` meets its contract.
use mathlib.Core.Path.{ap, sym, ◌∙◌}
use Rattle.stations.specs.View.{stations_in}
use Rattle.carts.specs.View.{carts_in, with_next}
use Rattle.wireless.proofs.Parts.{received_stations}
use Rattle.wireless.proofs.receive.Goals as goal

pub raise_next-requires : goal.raise_next-requires
raise_next-requires c = let p = c.requires in (p.has_row.0, p.has_station.2, p.has_station.3)

pub returns : goal.returns
returns c =
    let a = c.args in
    let queue = c.queue_of-queue in
    let left = c.without_member in
    let queued = c.put_queue in
    let acks = c.acks_of-acks in
    let joined = c.with_member in
    let acked = c.put_acks in
    let risen = c.raise_next.ensures in
    record {
      stations = received_stations (stations_in a.stations.now) (stations_in queued.new.stations) (stations_in acked.new.stations) a.m a.station.0 a.number.0
          queue.result left.result acks.result joined.result
          queue.ensures left.ensures queued.ensures.0 acks.ensures joined.ensures acked.ensures.0;
      head = acked.ensures.1.0 ∙ queued.ensures.1.0;
      words = acked.ensures.1.1 ∙ queued.ensures.1.1;
      next = risen.value;
      carts = risen.carts_after ∙ ap (with_next (carts_in a.carts.now) a.number.0 a.initiator.0) (sym risen.value);
      canonical = risen.carts_unchanged;
      rows = risen.carts_len_unchanged;
    }
