-- `controller::retire` meets its contract.
use borrow.Author.Rules.{rules}
use Rattle.controller.proofs.retire.Goals as goal

pub returns : goal.returns
returns g c = c.retire.ensures g.P.Product.product (search rules)
