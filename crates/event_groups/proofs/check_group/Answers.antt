-- `event_groups::check_group` meets its contract.
use Rattle.view.specs.View.{lent, floor_in}
use Rattle.event_groups.proofs.GroupChecks.{group_checks}
use Rattle.event_groups.proofs.check_group.Goals as goal

pub returns : goal.returns
returns c =
    let a = c.args in
    λ P M W T O. group_checks P (floor_in (lent P a.stations.now a.carts.now M W T O)) a.group a.set _ _ _
    (c.check_named-of_set.ensures P M W T O) c.check_number.ensures c.and.ensures
