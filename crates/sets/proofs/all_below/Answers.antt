-- `sets::all_below` meets its contract.
use native.Mathlib.Omega.{arith}
use borrow.Author.Rules.{rules}
use Rattle.sets.proofs.MaskLaws.{shifted_pos, set_of_shifted, set_of_word}
use Rattle.sets.proofs.all_below.Goals as goal

pub returns-then-n-lt64 : goal.returns-then-n-lt64
returns-then-n-lt64 c = set_of_shifted c.args.n (search rules)

pub returns-else-n-lt64 : goal.returns-else-n-lt64
returns-else-n-lt64 c = set_of_word c.args.n (omega arith)
