-- `exported_events::mekhturia_step_flag` meets its contract.
use Rattle.protocol.specs.Floor.{whole_floor}
use borrow.Author.Rules.{rules}
use Rattle.exported_events.proofs.mekhturia_step_flag.Goals as goal

pub returns : goal.returns
returns c =
    let flagged = c.flag_cart-answer in
    record { answered = flagged.result; met = flagged.ensures whole_floor c.requires.ready; words = c.put_answer_words.ensures.out_after }
