-- `lines::change_free` meets its contract. The summary is stored only where it changes.
use native.Mathlib.Omega.{arith}
use Rattle.lines.proofs.Bitmap.{summary_of_lem, freed_still}
use Rattle.lines.proofs.change_free.Goals as goal

pub returns-then-x-gt0 : goal.returns-then-x-gt0
returns-then-x-gt0 c = freed_still c.args.pool.now c.args.w c.args.x (omega arith) (omega arith) (summary_of_lem c.args.pool.now c.requires.2) c.if-pool-w-gt0.true c.if-x-gt0.true
