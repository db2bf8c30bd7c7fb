-- `stations::clear_stations` meets its contract.
use Rattle.stations.proofs.TableLaws.{no_stations_lem, no_head}
use Rattle.stations.proofs.clear_stations.Goals as goal

pub returns : goal.returns
returns c =
    let p = c.clear.ensures in
    record {
      by_index = p.by_index;
      stations_after = no_stations_lem _ p.by_index;
      stations_after_2 = no_head _ p.by_index;
      stations_len_unchanged = p.words_len_unchanged;
    }
