use native.Mathlib.Omega.{arith}
use Rattle.carts.specs.View.{carts_in}
use Rattle.form_tables.proofs.Walks.{next_above, walk_end, walk_past, walk_no, walk_on}
use Rattle.form_tables.proofs.all_past.Goals as goal

pub returns-then-k-number : goal.returns-then-k-number
returns-then-k-number c =
    let a = c.args in
    walk_past a.k a.set (next_above (carts_in a.carts.now).next a.s a.n) _ _ c.next.ensures.steps c.loop-number.invariant c.in-Some.is c.if-k-number.true

pub returns-then-next_by-n : goal.returns-then-next_by-n
returns-then-next_by-n c =
    let a = c.args in
    walk_no a.k a.set (next_above (carts_in a.carts.now).next a.s a.n) _ _ c.next.ensures.steps c.loop-number.invariant c.in-Some.is (omega arith) (λ h. omega arith)

pub loop-number-preserved : goal.loop-number-preserved
loop-number-preserved c =
    let a = c.args in
    walk_on a.k a.set (next_above (carts_in a.carts.now).next a.s a.n) _ _ c.next.ensures.steps c.loop-number.invariant c.in-Some.is (omega arith)

pub returns : goal.returns
returns c =
    let a = c.args in
    walk_end a.k a.set (next_above (carts_in a.carts.now).next a.s a.n) _ c.next.ensures.steps c.loop-number.invariant c.in-None.is
