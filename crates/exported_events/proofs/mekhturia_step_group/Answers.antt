-- `exported_events::mekhturia_step_group` meets its contract.
use Rattle.protocol.specs.Floor.{whole_floor}
use borrow.Author.Rules.{rules}
use Rattle.exported_events.proofs.mekhturia_step_group.Goals as goal

pub returns : goal.returns
returns c =
    let grouped = c.define_group-answer in
    record { answered = grouped.result; met = grouped.ensures whole_floor c.requires.ready; words = c.put_answer_words.ensures.out_after }
