-- `controller::wire` meets its contract.
use borrow.Author.Rules.{rules}
use Rattle.controller.proofs.wire.Goals as goal

pub returns : goal.returns
returns g c = c.wire.ensures g.P.Product.product (search rules)
