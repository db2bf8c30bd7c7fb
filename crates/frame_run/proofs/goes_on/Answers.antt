-- `frame_run::goes_on` meets its contract.
use mathlib.Core.Path.{ap}
use lib.ListN.{length}
use Rattle.frame_run.specs.Stops.{stop_number}
use Rattle.frame_run.proofs.Loop.{by_room}
use Rattle.frame_run.proofs.goes_on.Goals as goal

pub returns-in-Full : goal.returns-in-Full
returns-in-Full c = by_room c.args.p (length c.args.output.now) (ap stop_number c.in-Full.is) c.requires
