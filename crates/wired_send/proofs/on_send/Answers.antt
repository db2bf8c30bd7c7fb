-- `wired_send::on_send` meets its contract.
use Rattle.wired_send.proofs.on_send.Goals as goal

pub returns : goal.returns
returns c =
    record {
      kept = c.keep_message.ensures;
      announced = c.announce.ensures.announced;
      value = c.announce.ensures.value;
    }
