-- `sets::minus` meets its contract.
use mathlib.Core.Path.{refl}
use Rattle.protocol.specs.CartSets.{minus}
use Rattle.sets.proofs.minus.Goals as goal

pub returns : goal.returns
unfolding minus
returns c = refl
