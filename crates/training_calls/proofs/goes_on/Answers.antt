-- `training_calls::goes_on` meets its contract.
use mathlib.Core.Path.{ap}
use Rattle.frame_run.specs.Stops.{stop_number}
use Rattle.training_calls.proofs.Loop.{by_row}
use Rattle.training_calls.proofs.goes_on.Goals as goal

pub returns-in-Full : goal.returns-in-Full
returns-in-Full c = by_row c.args.p (ap stop_number c.in-Full.is)
