-- `exported_events::mekhturia_step_send_long` meets its contract.
use Rattle.protocol.specs.Floor.{whole_floor}
use borrow.Author.Rules.{rules}
use Rattle.exported_events.proofs.mekhturia_step_send_long.Goals as goal

pub send_long-answer-requires : goal.send_long-answer-requires
send_long-answer-requires c =
    record {
      ready_with = (whole_floor, c.floor_bounds.ensures.1, c.requires.ready);
      in_bounds = c.requires.in_bounds;
    }

pub returns : goal.returns
returns c =
    record {
      answered = c.send_long-answer.result;
      met = c.send_long-answer.ensures whole_floor c.floor_bounds.ensures.1 c.requires.ready;
      words = c.put_answer_words.ensures.out_after;
    }
