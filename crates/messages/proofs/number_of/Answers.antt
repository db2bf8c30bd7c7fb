-- `messages::number_of` meets its contract.
use borrow.Author.Rules.{rules}
use Rattle.messages.specs.View.{rooms_in}
use Rattle.messages.proofs.number_of.Goals as goal

pub returns : goal.returns
unfolding rooms_in
returns c = c.word_at.ensures
