-- `stations::mark_of` meets its contract.
use Rattle.stations.specs.View.{head_in}
use Rattle.stations.proofs.mark_of.Goals as goal

pub returns : goal.returns
unfolding head_in
returns c = c.word_at.ensures
