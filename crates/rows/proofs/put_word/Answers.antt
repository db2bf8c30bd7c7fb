-- `rows::put_word` meets its contract.
use mathlib.Core.Path.{refl}
use native.Mathlib.Omega.{arith}
use lib.ListN.{length-set}
use Rattle.rows.proofs.RowLaws.{cell_put}
use Rattle.rows.proofs.put_word.Goals as goal

pub returns : goal.returns
returns c =
    let a = c.args in
    record {
      words_after = cell_put a.width a.words.now a.row a.k _ a.word (omega arith) (omega arith) refl;
      words_len_unchanged = simp length-set;
    }
