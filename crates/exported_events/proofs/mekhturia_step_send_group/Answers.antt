-- `exported_events::mekhturia_step_send_group` meets its contract.
use Rattle.protocol.specs.Floor.{whole_floor}
use borrow.Author.Rules.{rules}
use Rattle.exported_events.proofs.mekhturia_step_send_group.Goals as goal

pub send_group-answer-requires : goal.send_group-answer-requires
send_group-answer-requires c =
    record {
      ready_with = (whole_floor, c.floor_bounds.ensures.1, c.requires.ready);
      text_len_bound = c.requires.text_len_bound;
    }

pub returns : goal.returns
returns c =
    record {
      answered = c.send_group-answer.result;
      met = c.send_group-answer.ensures whole_floor c.floor_bounds.ensures.1 c.requires.ready;
      words = c.put_answer_words.ensures.out_after;
    }
