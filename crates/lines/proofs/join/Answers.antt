-- `lines::join` meets its contract. Each store is within the pool.
use mathlib.Core.Path.{refl}
use Rattle.lines.specs.Parts.{joined}
use Rattle.lines.proofs.join.Goals as goal

pub returns : goal.returns
unfolding joined
returns c = refl
