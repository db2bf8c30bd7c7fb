-- `controller::move_cart` meets its contract.
use borrow.Author.Rules.{rules}
use Rattle.controller.proofs.move_cart.Goals as goal

pub returns : goal.returns
returns g c = c.move_cart.ensures g.P.Product.product (search rules)
