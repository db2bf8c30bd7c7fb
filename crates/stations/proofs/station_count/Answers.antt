-- `stations::station_count` meets its contract.
use Rattle.stations.specs.View.{head_in}
use Rattle.stations.proofs.station_count.Goals as goal

pub returns : goal.returns
unfolding head_in
returns c = c.word_at.ensures
