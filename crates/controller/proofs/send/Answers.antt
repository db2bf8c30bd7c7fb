-- `controller::send` meets its contract.
use borrow.Author.Rules.{rules}
use Rattle.controller.proofs.send.Goals as goal

pub returns : goal.returns
returns g c = c.send.ensures g.P.Product.product (search rules)
