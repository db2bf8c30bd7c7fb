use mathlib.Core.Path.{◌≡◌, subst}
use Prim.Native.Nat.{◌+◌, ◌<◌}
use native.Mathlib.Omega.{arith}
use lib.ListN.{length, length-set}
use Rattle.lines.specs.Words.{register_at}
use Rattle.lines.proofs.Formed.{form_formed}
use Rattle.lines.proofs.Registers.{WrittenTo, write_one, carry_is}
use Rattle.lines.proofs.put_register.Goals as goal

pub bounds-pool-at : goal.bounds-pool-at
bounds-pool-at c = omega (arith, (form_formed c.args.pool.now c.requires.1).long, c.loop-s.invariant.1)

pub loop-s-preserved : goal.loop-s-preserved
loop-s-preserved c =
    let a = c.loop-s in
    let long : register_at c.args.cart + a.s < length a.pool = omega (arith, (form_formed c.args.pool.now c.requires.1).long, a.invariant.1) in
    (omega arith, simp length-set a.invariant.1, write_one c.args.pool.now a.pool (register_at c.args.cart) c.args.row a.s long a.invariant.2)

pub returns : goal.returns
returns c =
    let a = c.loop-s in
    let all : a.s ≡ 16 = omega arith in
    carry_is c.args.pool.now a.pool c.args.cart c.args.row c.requires.0 (omega arith) a.invariant.1
    (subst (WrittenTo c.args.pool.now a.pool (register_at c.args.cart) c.args.row) all a.invariant.2) c.requires.1
