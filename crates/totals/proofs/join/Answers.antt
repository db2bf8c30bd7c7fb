-- `totals::join` meets its contract.
use native.Mathlib.Omega.{arith}
use Rattle.totals.proofs.Joins.{neither_too_large, passed_too_large, received_too_large}
use Rattle.totals.proofs.join.Goals as goal

pub returns-in_err-ok_or : goal.returns-in_err-ok_or
returns-in_err-ok_or c =
    let h = c.checked_add-received.ensures in let k = c.ok_or.ensures.value in let e = c.in_err-ok_or.was in let m = c.from_residual.ensures.1 in
    grind (arith, received_too_large)

pub returns-in_err-ok_or-2 : goal.returns-in_err-ok_or-2
returns-in_err-ok_or-2 c =
    let h = c.checked_add-passed.ensures in let k = c.ok_or-2.ensures.value in let e = c.in_err-ok_or-2.was in let m = c.from_residual-in_err-ok_or-2.ensures.1 in
    grind (arith, passed_too_large)

pub returns : goal.returns
returns c =
    let h = c.checked_add-received.ensures in let k = c.checked_add-passed.ensures in
    let x = c.in_ok-ok_or.was in let y = c.in_ok-ok_or-2.was in
    grind (arith, neither_too_large)
