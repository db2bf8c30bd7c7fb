-- `exported_events::mekhturia_step_radio` meets its contract.
use Rattle.protocol.specs.Floor.{whole_floor}
use borrow.Author.Rules.{rules}
use Rattle.exported_events.proofs.mekhturia_step_radio.Goals as goal

pub returns : goal.returns
returns c =
    let r = c.radio_into-answer in
    record { answered = r.result; delivered = r.ensures whole_floor c.requires.ready; words = c.put_answer_words.ensures.out_after }
