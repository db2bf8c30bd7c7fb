-- `frame_lines::put_one` meets its contract.
use native.Mathlib.Omega.{arith}
use lib.ListN.{length-set}
use Rattle.frame_lines.proofs.Fields.{field_short}
use Rattle.frame_lines.proofs.put_one.Goals as goal

pub bounds-out-at-2 : goal.bounds-out-at-2
bounds-out-at-2 c = simp length-set (omega arith)

pub returns : goal.returns
returns c = field_short c.args.n _ c.args.out.now c.args.at c.requires.0 c.requires.1 c.digit.ensures
