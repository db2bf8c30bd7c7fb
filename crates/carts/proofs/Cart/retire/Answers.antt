-- `carts::Cart::retire` meets its contract.
use mathlib.Core.Path.{refl}
use Rattle.protocol.specs.Folds.{list_of}
use Rattle.carts.proofs.Cart.retire.Goals as goal

pub returns : goal.returns
unfolding list_of
returns c = refl
