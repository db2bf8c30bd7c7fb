use mathlib.Core.Path.{refl}
use native.Mathlib.Omega.{arith}
use lib.ListN.{length-set}
use Rattle.carts.specs.View.{carts_in}
use Rattle.rows.proofs.WordByWord.{read_one, read_all}
use Rattle.carts.proofs.row_of.Goals as goal

pub loop-i-init : goal.loop-i-init
loop-i-init c = (omega arith, refl, λ k l. absurd (omega arith))

pub loop-i-preserved : goal.loop-i-preserved
loop-i-preserved c = (
  omega arith,
  simp length-set (omega arith),
  read_one ((carts_in c.args.carts.now).next c.args.number.0) c.loop-i.row c.loop-i.i c.next_of.result (omega arith) c.next_of.ensures c.loop-i.invariant.2,
)

pub returns : goal.returns
returns c = read_all 16 ((carts_in c.args.carts.now).next c.args.number.0) c.loop-i.row c.loop-i.i (omega arith) (omega arith) c.loop-i.invariant.2
