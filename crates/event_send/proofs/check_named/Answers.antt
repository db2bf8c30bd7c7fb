-- `event_send::check_named` meets its contract.
use native.Mathlib.Omega.{arith}
use Rattle.protocol.proofs.SetLaws.{member_below}
use Rattle.stations.specs.View.{head_in}
use Rattle.form_groups.proofs.Entered.{all_of, within_all}
use Rattle.event_send.proofs.SetChecks.{named_stranger, named_outside, named_passes}
use Rattle.event_send.proofs.check_named.Goals as goal

pub returns-then-all_below-set : goal.returns-then-all_below-set
returns-then-all_below-set c =
    let a = c.args in
    λ P M W T O. named_stranger a.stations.now a.carts.now a.set c.all_below.result P M W T O (all_of _ _ _ c.all_below.ensures c.cart_count.ensures) c.if-all_below-set.true

pub all_entered-requires : goal.all_entered-requires
all_entered-requires c =
    let n = (head_in c.args.stations.now).carts in
    let all = all_of _ _ _ c.all_below.ensures c.cart_count.ensures in
    let low = within_all n c.args.set _ all (omega (arith, c.if-all_below-set.false)) in
    λ d h. let b = member_below n c.args.set d low h in let r = c.requires.1 in omega arith

pub returns-then-not-all_entered : goal.returns-then-not-all_entered
returns-then-not-all_entered c =
    let a = c.args in
    λ P M W T O. named_outside a.stations.now a.carts.now a.set c.all_below.result P M W T O (all_of _ _ _ c.all_below.ensures c.cart_count.ensures) (omega (arith, c.if-all_below-set.false)) c.requires.2 c.all_entered.result c.all_entered.ensures c.if-not-all_entered.true

pub returns : goal.returns
returns c =
    let a = c.args in
    λ P M W T O. named_passes a.stations.now a.carts.now a.set c.all_below.result P M W T O (all_of _ _ _ c.all_below.ensures c.cart_count.ensures) (omega (arith, c.if-all_below-set.false)) c.requires.2 c.all_entered.result c.all_entered.ensures c.if-not-all_entered.false
