-- `lines::full_word` meets its contract. No row, some rows or all rows of the word are in the pool.
use native.Mathlib.Omega.{arith}
use Rattle.lines.proofs.Bitmap.{full_some}
use Rattle.lines.proofs.full_word.Goals as goal

pub returns : goal.returns
returns c = full_some c.args.rows c.args.w c.min-n.result c.all_below.result (omega (arith, c.saturating_sub.ensures, c.min-n.ensures)) c.all_below.ensures
