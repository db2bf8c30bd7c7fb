-- `sets::union` meets its contract.
use mathlib.Core.Path.{refl}
use Rattle.protocol.specs.CartSets.{union}
use Rattle.sets.proofs.union.Goals as goal

pub returns : goal.returns
unfolding union
returns c = refl
