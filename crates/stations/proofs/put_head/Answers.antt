-- `stations::put_head` meets its contract.
use mathlib.Core.Path.{◌∙◌}
use Rattle.stations.proofs.TableLaws.{head_put, stations_kept}
use Rattle.stations.proofs.put_head.Goals as goal

pub returns : goal.returns
returns c =
    let a = c.args in
    let p = c.put_word.ensures in
    let q = c.put_word-2.ensures in
    let r = c.put_word-3.ensures in
    record {
      stations_after = head_put a.stations.now _ _ _ a.mark a.n a.k p.words_after q.words_after r.words_after;
      stations_unchanged = stations_kept _ _ 2 a.k r.words_after ∙ stations_kept _ _ 1 a.n q.words_after ∙ stations_kept a.stations.now _ 0 a.mark p.words_after;
      stations_len_unchanged = r.words_len_unchanged ∙ q.words_len_unchanged ∙ p.words_len_unchanged;
    }
