-- `controller::define_group` meets its contract.
use borrow.Author.Rules.{rules}
use Rattle.controller.proofs.define_group.Goals as goal

pub returns : goal.returns
returns g c = c.define_group.ensures g.P.Product.product (search rules)
