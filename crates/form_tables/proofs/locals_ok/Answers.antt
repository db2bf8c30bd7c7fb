use mathlib.Core.List.{[]}
use native.Mathlib.Omega.{arith}
use Rattle.protocol.specs.Floor.{whole_floor}
use Rattle.protocol.specs.Claims.{is}
use Rattle.view.specs.View.{lent, local_right}
use Rattle.form_tables.proofs.Locals.{mask_right}
use Rattle.protocol.proofs.Answers.{one_more, all_yes, all_no}
use Rattle.form_tables.proofs.locals_ok.Goals as goal

pub returns-then-local_of-locals : goal.returns-then-local_of-locals
returns-then-local_of-locals c =
    let s = c.args in
    let a = c.loop-t in
    let found = c.local_of in
    all_no s.n (λ k. is (local_right (lent whole_floor s.stations.now s.carts.now [] [] [] []) k)) a.t (omega arith)
    (λ h. c.if-local_of-locals.true ((mask_right s.stations.now s.carts.now a.t found.result _ found.ensures (c.locals_of-locals.ensures a.t (omega arith))).0 h))

pub loop-t-preserved : goal.loop-t-preserved
loop-t-preserved c =
    let s = c.args in
    let a = c.loop-t in
    let found = c.local_of in (
      omega arith,
      one_more (λ k. is (local_right (lent whole_floor s.stations.now s.carts.now [] [] [] []) k)) a.t a.invariant.1
          ((mask_right s.stations.now s.carts.now a.t found.result _ found.ensures (c.locals_of-locals.ensures a.t (omega arith))).1 c.if-local_of-locals.false),
    )

pub returns : goal.returns
returns c =
    let s = c.args in
    let a = c.loop-t in
    all_yes s.n (λ k. is (local_right (lent whole_floor s.stations.now s.carts.now [] [] [] []) k)) a.t (omega arith) a.invariant.1
