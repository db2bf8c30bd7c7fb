-- `event_send::is_defined` meets its contract.
use native.Mathlib.Omega.{arith}
use Rattle.view.specs.View.{lent, floor_in}
use Rattle.event_send.proofs.SendChecks.{is_no_group, is_a_group}
use Rattle.event_send.proofs.is_defined.Goals as goal

pub returns-then-group-ge-GROUPS : goal.returns-then-group-ge-GROUPS
returns-then-group-ge-GROUPS c =
    let a = c.args in
    λ P C M W T O. is_no_group (floor_in (lent P a.stations.now C M W T O)) a.group c.if-group-ge-GROUPS.true

pub returns : goal.returns
returns c =
    let a = c.args in
    λ P C M W T O. is_a_group (floor_in (lent P a.stations.now C M W T O)) a.group _ (omega (arith, c.if-group-ge-GROUPS.false)) c.group_of.ensures
