-- `exported_events::mekhturia_step_move` meets its contract.
use Rattle.protocol.specs.Floor.{whole_floor}
use borrow.Author.Rules.{rules}
use Rattle.exported_events.proofs.mekhturia_step_move.Goals as goal

pub returns : goal.returns
returns c = record { answered = c.move_cart-answer.result; met = c.move_cart-answer.ensures whole_floor c.requires.ready; words = c.put_answer_words.ensures.out_after }
