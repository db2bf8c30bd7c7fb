use Rattle.carts.specs.View.{carts_in}
use Rattle.form_tables.proofs.Walks.{walk_end, walk_member, walk_below, walk_no, walk_on}
use Rattle.form_groups.proofs.Entered.{has_entered, stays_out, came_in}
use Rattle.form_groups.proofs.all_entered.Goals as goal

pub is_outside-requires : goal.is_outside-requires
is_outside-requires c =
    let a = c.args in
    c.requires _ (walk_member 64 a.set (has_entered (carts_in a.carts.now).place) _ _ c.next.ensures.steps c.loop-number.invariant c.in-Some.is)

pub returns-then-is_outside : goal.returns-then-is_outside
returns-then-is_outside c =
    let a = c.args in
    let P = has_entered (carts_in a.carts.now).place in
    let l = c.loop-number in
    walk_no 64 a.set P _ _ c.next.ensures.steps l.invariant c.in-Some.is (walk_below 64 a.set P _ _ c.next.ensures.steps l.invariant c.in-Some.is) (stays_out c.is_outside.result _ c.is_outside.ensures c.if-is_outside.true)

pub loop-number-preserved : goal.loop-number-preserved
loop-number-preserved c =
    let a = c.args in
    walk_on 64 a.set (has_entered (carts_in a.carts.now).place) _ _ c.next.ensures.steps c.loop-number.invariant c.in-Some.is (came_in c.is_outside.result _ c.is_outside.ensures c.if-is_outside.false)

pub returns : goal.returns
returns c =
    let a = c.args in
    walk_end 64 a.set (has_entered (carts_in a.carts.now).place) _ c.next.ensures.steps c.loop-number.invariant c.in-None.is
