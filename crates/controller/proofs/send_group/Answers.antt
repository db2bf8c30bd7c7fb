-- `controller::send_group` meets its contract.
use borrow.Author.Rules.{rules}
use Rattle.controller.proofs.send_group.Goals as goal

pub returns : goal.returns
returns g c = c.send_group.ensures g.P.Product.product (search rules)
