-- `frame_run::done_of` meets its contract.
use Rattle.frame_run.proofs.Events.{done_is}
use Rattle.frame_run.proofs.done_of.Goals as goal

pub returns-in-Ok : goal.returns-in-Ok
returns-in-Ok c = done_is c.in-Ok.accepted _ _ c.told-told.ensures c.in-Ok.is
