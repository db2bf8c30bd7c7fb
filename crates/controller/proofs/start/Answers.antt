-- `controller::start` meets its contract.
use borrow.Author.Rules.{rules}
use Rattle.controller.proofs.start.Goals as goal

pub returns : goal.returns
returns g c = c.start.ensures g.P.Product.product (search rules)
