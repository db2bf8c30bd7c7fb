-- `training_calls::members_for` meets its contract.
use mathlib.Core.Path.{sym, ap, ◌∙◌}
use Rattle.stations.specs.View.{head_in}
use Rattle.training_calls.specs.Calls.{members_for}
use Rattle.training_calls.proofs.CallLaws.{no_group_lem}
use Rattle.training_calls.proofs.members_for.Goals as goal

pub returns-then-group-ge-GROUPS : goal.returns-then-group-ge-GROUPS
returns-then-group-ge-GROUPS c =
    let S = c.args.stations.now in
    sym (ap (members_for (head_in S).groups) c.in-SendGroup.is ∙ no_group_lem S _ c.if-group-ge-GROUPS.true)

pub returns : goal.returns
returns c =
    let S = c.args.stations.now in
    c.group_of.ensures ∙ sym (ap (members_for (head_in S).groups) c.in-SendGroup.is)
