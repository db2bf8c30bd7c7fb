-- `frame_stream::no_stations` meets its contract.
use mathlib.Core.Path.{refl}
use Rattle.rows.specs.Rows.{cell}
use Rattle.stations.specs.View.{head_in}
use Rattle.frame_stream.proofs.no_stations.Goals as goal

pub returns : goal.returns
unfolding head_in cell
returns c = (refl, refl)
