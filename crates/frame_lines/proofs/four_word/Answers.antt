-- `frame_lines::four_word` meets its contract.
use Prim.Native.Nat.{◌+◌}
use native.Mathlib.Omega.{arith}
use Rattle.frame_lines.proofs.Numbers.{spelled_four, spelled_low, spelled_first}
use Rattle.frame_lines.proofs.four_word.Goals as goal

pub overflow_sub-result : goal.overflow_sub-result
overflow_sub-result c = spelled_first c.args.n _ c.if-n-lt1000.true (c.requires.0.spelled (c.args.n + 1000) (omega arith))

pub returns-then-n-lt1000 : goal.returns-then-n-lt1000
returns-then-n-lt1000 c = (spelled_low c.args.n _ c.if-n-lt1000.true (c.requires.0.spelled (c.args.n + 1000) (omega arith)), omega arith)

pub returns : goal.returns
returns c = (spelled_four c.args.n _ (omega arith) c.requires.1 (c.requires.0.spelled c.args.n c.requires.1), omega arith)
