-- `lines::row_count` meets its contract. Whole rows after the lines.
use mathlib.Core.Path.{refl}
use Rattle.lines.specs.Words.{capacity}
use Rattle.lines.proofs.row_count.Goals as goal

pub returns : goal.returns
unfolding capacity
returns c = refl
