-- `stations::sent_of` meets its contract.
use Rattle.stations.specs.View.{stations_in}
use Rattle.stations.proofs.sent_of.Goals as goal

pub returns : goal.returns
unfolding stations_in
returns c = c.word_of.ensures
