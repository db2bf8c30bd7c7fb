-- `lines::leave` meets its contract. Each store is within the pool.
use mathlib.Core.Path.{refl}
use Rattle.lines.specs.Parts.{left}
use Rattle.lines.proofs.leave.Goals as goal

pub returns : goal.returns
unfolding left
returns c = refl
