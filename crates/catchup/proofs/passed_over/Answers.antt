use native.Mathlib.Omega.{arith}
use Rattle.catchup.proofs.RowLaws.{rise_none, rise_fits, rise_again, rise_all}
use Rattle.catchup.proofs.passed_over.Goals as goal

pub loop-s-init : goal.loop-s-init
loop-s-init c = (omega arith, rise_none c.args.row c.args.upto)

pub overflow_sub-passed : goal.overflow_sub-passed
overflow_sub-passed c =
    let l = c.loop-s in
    let up = c.requires l.s (omega arith) in
    omega (arith, up.0)

pub overflow_add-passed : goal.overflow_add-passed
overflow_add-passed c =
    let a = c.args in
    let l = c.loop-s in
    let up = c.requires l.s (omega arith) in
    omega (arith, l.invariant.1, up.1, rise_fits a.row a.upto c.requires l.s (omega arith))

pub loop-s-preserved : goal.loop-s-preserved
loop-s-preserved c =
    let a = c.args in
    let l = c.loop-s in
    (omega arith, rise_again a.row a.upto l.s l.passed l.invariant.1)

pub returns : goal.returns
returns c =
    let a = c.args in
    let l = c.loop-s in
    rise_all a.row a.upto l.s l.passed (omega arith) l.invariant.1
