-- `controller::text_of` meets its contract.
use borrow.Author.Rules.{rules}
use Rattle.controller.proofs.text_of.Goals as goal

pub returns : goal.returns
returns g c = c.text_of.ensures g.P.Product.product (search rules)
