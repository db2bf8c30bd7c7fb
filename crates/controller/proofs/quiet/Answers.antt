-- `controller::quiet` meets its contract.
use borrow.Author.Rules.{rules}
use Rattle.controller.proofs.quiet.Goals as goal

pub returns : goal.returns
returns g c = c.quiet.ensures g.P.Product.product (search rules)
