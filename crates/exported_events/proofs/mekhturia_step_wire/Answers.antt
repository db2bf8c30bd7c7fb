-- `exported_events::mekhturia_step_wire` meets its contract.
use Rattle.protocol.specs.Floor.{whole_floor}
use borrow.Author.Rules.{rules}
use Rattle.exported_events.proofs.mekhturia_step_wire.Goals as goal

pub returns : goal.returns
returns c = record { answered = c.wire-answer.result; met = c.wire-answer.ensures whole_floor c.requires.ready; words = c.put_answer_words.ensures.out_after }
