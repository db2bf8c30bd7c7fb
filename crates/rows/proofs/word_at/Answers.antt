-- `rows::word_at` meets its contract.
use mathlib.Core.Path.{refl}
use native.Mathlib.Omega.{arith}
use Rattle.rows.proofs.RowLaws.{cell_read}
use Rattle.rows.proofs.word_at.Goals as goal

pub returns : goal.returns
returns c =
    let a = c.args in
    cell_read a.width a.words.now a.row a.k _ (omega arith) refl
