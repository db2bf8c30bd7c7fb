-- `controller::text_refusal` meets its contract.
use borrow.Author.Rules.{rules}
use Rattle.controller.proofs.text_refusal.Goals as goal

pub returns : goal.returns
returns g c = c.text_refusal.ensures g.P.Product.product (search rules)
