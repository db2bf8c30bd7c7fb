-- `stations::put_word` meets its contract.
use Rattle.stations.proofs.TableLaws.{station_put, head_kept}
use Rattle.stations.proofs.put_word.Goals as goal

pub returns : goal.returns
returns c =
    let a = c.args in
    let p = c.put_word.ensures in
    record {
      stations_after = station_put a.stations.now _ a.k a.word a.station.0 p.words_after;
      stations_unchanged = head_kept a.stations.now _ a.k a.word a.station.0 p.words_after;
      stations_len_unchanged = p.words_len_unchanged;
    }
