-- `lines::summed` meets its contract. The bit is set or cleared.
use native.Mathlib.Omega.{arith}
use Rattle.lines.proofs.Bitmap.{summed_with, summed_without}
use Rattle.lines.proofs.summed.Goals as goal

pub returns-then-x-gt0 : goal.returns-then-x-gt0
returns-then-x-gt0 c = summed_with c.args.s c.args.w c.args.x c.with_member.result c.with_member.ensures (omega arith) (omega arith)

pub returns-else-x-gt0 : goal.returns-else-x-gt0
returns-else-x-gt0 c = summed_without c.args.s c.args.w c.args.x c.without_member.result c.without_member.ensures (omega arith)
