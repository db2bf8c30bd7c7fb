-- `event_groups::check_number` meets its contract.
use native.Mathlib.Omega.{arith}
use Rattle.event_groups.proofs.GroupChecks.{number_beyond, number_passes}
use Rattle.event_groups.proofs.check_number.Goals as goal

pub returns-then-group-ge-GROUPS : goal.returns-then-group-ge-GROUPS
returns-then-group-ge-GROUPS c = number_beyond c.args.group c.if-group-ge-GROUPS.true

pub returns : goal.returns
returns c = number_passes c.args.group (omega (arith, c.if-group-ge-GROUPS.false))
