-- `training_stream::no_counts` meets its contract.
use mathlib.Core.Path.{refl}
use Rattle.training_stream.proofs.Fresh.{all_zero_lem}
use Rattle.training_stream.proofs.no_counts.Goals as goal

pub returns : goal.returns
returns c = (refl, all_zero_lem 21)
