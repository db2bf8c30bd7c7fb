-- `controller::enter` meets its contract.
use borrow.Author.Rules.{rules}
use Rattle.controller.proofs.enter.Goals as goal

pub returns : goal.returns
returns g c = c.enter.ensures g.P.Product.product (search rules)
