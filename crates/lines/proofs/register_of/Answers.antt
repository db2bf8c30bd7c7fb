use mathlib.Core.Path.{refl}
use Prim.Native.Nat.{◌+◌}
use native.Mathlib.Omega.{arith}
use lib.ListN.{get_or, length-set}
use Rattle.rows.proofs.WordByWord.{read_one, read_all}
use Rattle.lines.specs.Words.{register_at}
use Rattle.lines.specs.Lines.{registers_in}
use Rattle.lines.proofs.Registers.{register_read}
use Rattle.lines.proofs.register_of.Goals as goal

pub loop-s-preserved : goal.loop-s-preserved
loop-s-preserved c =
    let p = c.args.pool.now in
    let cart = c.args.cart in
    let a = c.loop-s in (
      omega arith,
      simp length-set (omega arith),
      read_one (registers_in p cart) a.row a.s (get_or p (register_at cart + a.s) 0) (omega arith) (register_read p cart a.s (register_at cart + a.s) (omega arith) (omega arith) refl) a.invariant.2,
    )

pub returns : goal.returns
returns c =
    let a = c.loop-s in
    read_all 16 (registers_in c.args.pool.now c.args.cart) a.row a.s (omega arith) (omega arith) a.invariant.2
