-- `stations::put_group` meets its contract.
use native.Mathlib.Omega.{arith}
use Rattle.stations.specs.View.{group_at}
use Rattle.stations.proofs.TableLaws.{group_put, stations_kept}
use Rattle.stations.proofs.put_group.Goals as goal

pub returns : goal.returns
returns c =
    let a = c.args in
    let p = c.put_word.ensures in
    record {
      stations_after = group_put a.stations.now _ a.group a.set (omega arith) p.words_after;
      stations_unchanged = stations_kept a.stations.now _ (group_at a.group) a.set p.words_after;
      stations_len_unchanged = p.words_len_unchanged;
    }
