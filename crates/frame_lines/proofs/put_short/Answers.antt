-- `frame_lines::put_short` meets its contract.
use native.Mathlib.Omega.{arith}
use lib.ListN.{length-set}
use Rattle.frame_lines.proofs.Fields.{field_spelled}
use Rattle.frame_lines.proofs.put_short.Goals as goal

pub put_spelled-requires : goal.put_spelled-requires
put_spelled-requires c = (simp length-set (omega arith), c.requires.1, c.requires.2)

pub returns : goal.returns
returns c = field_spelled c.args.n c.args.out.now c.args.at c.requires.0 c.put_spelled.ensures

pub shape_of-out : goal.shape_of-out
shape_of-out c = (returns c).kept
