-- `wired_send::on_send_long` meets its contract.
use Rattle.wired_send.proofs.on_send_long.Goals as goal

pub returns : goal.returns
returns c =
    record {
      kept_long = c.keep_long_message.ensures;
      announced = c.announce.ensures.announced;
      value = c.announce.ensures.value;
    }
