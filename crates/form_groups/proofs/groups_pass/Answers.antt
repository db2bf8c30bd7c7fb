-- `form_groups::groups_pass` meets its contract.
use mathlib.Core.Path.{◌∙◌}
use native.Mathlib.Omega.{arith}
use borrow.Author.Tests.{lt-leb}
use Rattle.protocol.proofs.SetLaws.{member_below}
use Rattle.stations.specs.View.{head_in}
use Rattle.form_groups.proofs.Entered.{all_of, within_all}
use Rattle.form_groups.proofs.Groups.{groups_strange, groups_walked}
use Rattle.form_groups.proofs.groups_pass.Goals as goal

pub all_entered-requires : goal.all_entered-requires
all_entered-requires c =
    let n = (head_in c.args.stations.now).carts in
    let all = all_of _ _ _ c.all_below.ensures c.cart_count.ensures in
    let low = within_all n c.grouped_carts-grouped.result _ all c.if-grouped-all_below.true in
    λ d h. let b = member_below n c.grouped_carts-grouped.result d low h in let r = c.requires.1 in omega arith

pub returns-then-grouped-all_below : goal.returns-then-grouped-all_below
returns-then-grouped-all_below c =
    let a = c.args in
    groups_walked a.stations.now a.carts.now _ c.all_below.result c.grouped_carts-grouped.ensures (all_of _ _ _ c.all_below.ensures c.cart_count.ensures) c.if-grouped-all_below.true c.requires.2 c.all_entered.result c.all_entered.ensures

pub returns-else-grouped-all_below : goal.returns-else-grouped-all_below
returns-else-grouped-all_below c =
    let a = c.args in
    let l = c.if-grouped-all_below.false in
    lt-leb _ _ l ∙ groups_strange a.stations.now a.carts.now _ c.all_below.result c.grouped_carts-grouped.ensures (all_of _ _ _ c.all_below.ensures c.cart_count.ensures) l
