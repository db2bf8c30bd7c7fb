-- `frame_run::done_with_text` meets its contract.
use Rattle.frame_run.proofs.Events.{done_with_text_is}
use Rattle.frame_run.proofs.done_with_text.Goals as goal

pub returns-in-Ok : goal.returns-in-Ok
returns-in-Ok c = done_with_text_is c.in-Ok.handed _ _ c.told-told.ensures c.in-Ok.is
