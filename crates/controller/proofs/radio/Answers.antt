-- `controller::radio` meets its contract.
use borrow.Author.Rules.{rules}
use Rattle.controller.proofs.radio.Goals as goal

pub returns : goal.returns
returns g c = c.radio.ensures g.P.Product.product (search rules)
