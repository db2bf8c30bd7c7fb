use mathlib.Core.Path.{sym, ◌∙◌}
use Rattle.carts.specs.View.{carts_in}
use Rattle.form_tables.proofs.Walks.{next_is, walk_end, walk_below, walk_member, walk_no, walk_on}
use Rattle.form_tables.proofs.all_next.Goals as goal

pub next_by-requires : goal.next_by-requires
next_by-requires c =
    let a = c.args in
    c.requires _ (walk_member 64 a.set (next_is (carts_in a.carts.now).next a.s a.n) _ _ c.next.ensures.steps c.loop-number.invariant c.in-Some.is)

pub returns-then-next_by-n : goal.returns-then-next_by-n
returns-then-next_by-n c =
    let a = c.args in
    let P = next_is (carts_in a.carts.now).next a.s a.n in
    let l = c.loop-number in
    walk_no 64 a.set P _ _ c.next.ensures.steps l.invariant c.in-Some.is (walk_below 64 a.set P _ _ c.next.ensures.steps l.invariant c.in-Some.is) (λ h. c.if-next_by-n.true (c.next_by.ensures ∙ h))

pub loop-number-preserved : goal.loop-number-preserved
loop-number-preserved c =
    let a = c.args in
    walk_on 64 a.set (next_is (carts_in a.carts.now).next a.s a.n) _ _ c.next.ensures.steps c.loop-number.invariant c.in-Some.is (sym c.next_by.ensures ∙ c.if-next_by-n.false)

pub returns : goal.returns
returns c =
    let a = c.args in
    walk_end 64 a.set (next_is (carts_in a.carts.now).next a.s a.n) _ c.next.ensures.steps c.loop-number.invariant c.in-None.is
