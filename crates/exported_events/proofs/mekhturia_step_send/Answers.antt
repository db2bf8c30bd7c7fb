-- `exported_events::mekhturia_step_send` meets its contract.
use Rattle.protocol.specs.Floor.{whole_floor}
use borrow.Author.Rules.{rules}
use Rattle.exported_events.proofs.mekhturia_step_send.Goals as goal

pub send-answer-requires : goal.send-answer-requires
send-answer-requires c =
    record {
      ready_with = (whole_floor, c.floor_bounds.ensures.1, c.requires.ready);
      text_len_bound = c.requires.text_len_bound;
    }

pub returns : goal.returns
returns c =
    record {
      answered = c.send-answer.result;
      met = c.send-answer.ensures whole_floor c.floor_bounds.ensures.1 c.requires.ready;
      words = c.put_answer_words.ensures.out_after;
    }
