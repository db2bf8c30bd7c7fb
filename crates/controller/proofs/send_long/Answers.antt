-- `controller::send_long` meets its contract.
use borrow.Author.Rules.{rules}
use Rattle.controller.proofs.send_long.Goals as goal

pub returns : goal.returns
returns g c = c.send_long.ensures g.P.Product.product (search rules)
