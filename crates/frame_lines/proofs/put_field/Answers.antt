-- `frame_lines::put_field` meets its contract.
use native.Mathlib.Omega.{arith}
use lib.ListN.{length-set}
use Rattle.frame_lines.proofs.Octets.{wrote_wider}
use Rattle.frame_lines.proofs.Fields.{field_written}
use Rattle.frame_lines.proofs.put_field.Goals as goal

pub returns-then-n-lt10 : goal.returns-then-n-lt10
returns-then-n-lt10 c = wrote_wider (omega arith) c.put_one.ensures

pub put_decimal-requires : goal.put_decimal-requires
put_decimal-requires c = simp length-set (omega arith)

pub returns : goal.returns
returns c = field_written c.args.n c.args.out.now c.args.at c.requires c.put_decimal.ensures
