-- `handoff::on_flag` meets its contract.
use Rattle.handoff.proofs.on_flag.Goals as goal

pub returns : goal.returns
returns c =
    record {
      flagged = c.tell.ensures;
      value = c.nothing.ensures;
    }
