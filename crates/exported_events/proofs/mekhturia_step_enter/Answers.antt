-- `exported_events::mekhturia_step_enter` meets its contract.
use Rattle.protocol.specs.Floor.{whole_floor}
use borrow.Author.Rules.{rules}
use Rattle.exported_events.proofs.mekhturia_step_enter.Goals as goal

pub returns : goal.returns
returns c = record { answered = c.enter-answer.result; met = c.enter-answer.ensures whole_floor c.requires.ready; words = c.put_answer_words.ensures.out_after }
