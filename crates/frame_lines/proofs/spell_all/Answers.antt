use native.Mathlib.Omega.{arith}
use lib.ListN.{length-set}
use Rattle.frame_lines.proofs.Numbers.{spelled_more}
use Rattle.frame_lines.proofs.spell_all.Goals as goal

pub loop-n-init : goal.loop-n-init
loop-n-init c = (c.requires, omega arith, λ k h. absurd (omega arith))

pub loop-n-preserved : goal.loop-n-preserved
loop-n-preserved c =
    let a = c.loop-n in
    let w = c.spell in
    (simp length-set a.invariant.0, omega arith, spelled_more a.numbers a.n w.result (omega arith) a.invariant.2 w.ensures)

pub returns : goal.returns
returns c =
    let a = c.loop-n in
    record { size = a.invariant.0; spelled = λ n h. a.invariant.2 n (omega arith) }
