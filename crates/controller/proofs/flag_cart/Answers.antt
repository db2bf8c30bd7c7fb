-- `controller::flag_cart` meets its contract.
use borrow.Author.Rules.{rules}
use Rattle.controller.proofs.flag_cart.Goals as goal

pub returns : goal.returns
returns g c = c.flag_cart.ensures g.P.Product.product (search rules)
