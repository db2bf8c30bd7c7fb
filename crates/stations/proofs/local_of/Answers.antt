-- `stations::local_of` meets its contract.
use Rattle.stations.specs.View.{stations_in}
use Rattle.stations.proofs.local_of.Goals as goal

pub returns : goal.returns
unfolding stations_in
returns c = c.word_of.ensures
