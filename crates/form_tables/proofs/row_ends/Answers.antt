use native.Mathlib.Omega.{arith}
use Rattle.protocol.specs.Claims.{when, le, eq}
use Rattle.carts.specs.View.{carts_in}
use Rattle.protocol.proofs.Answers.{all_yes, all_no}
use Rattle.form_tables.proofs.row_ends.Goals as goal

pub returns-then-next_of-gt0 : goal.returns-then-next_of-gt0
returns-then-next_of-gt0 c =
    let next = (carts_in c.args.carts.now).next c.args.number.0 in
    all_no 16 (λ k. when (le c.args.n k) (eq (next k) 0)) c.loop-s.s (omega arith) (λ h. let l = c.loop-s.invariant.0 in omega (arith, h l))

pub returns : goal.returns
returns c =
    let next = (carts_in c.args.carts.now).next c.args.number.0 in
    let a = c.loop-s in
    all_yes 16 (λ k. when (le c.args.n k) (eq (next k) 0)) a.s (omega arith) a.invariant.2
