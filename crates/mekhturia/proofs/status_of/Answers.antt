-- `mekhturia::status_of` meets its contract.
use borrow.Author.Rules.{rules}
use Rattle.mekhturia.proofs.Statuses.{status_few, status_none, status_answered}
use Rattle.mekhturia.proofs.status_of.Goals as goal

pub returns-then-too_few : goal.returns-then-too_few
returns-then-too_few c =
    let a = c.args in
    status_few a.product a.out.now _ c.too_few.ensures c.if-too_few.true

pub returns-then-product-gt-KIT : goal.returns-then-product-gt-KIT
returns-then-product-gt-KIT c =
    let a = c.args in
    status_none a.product a.out.now _ c.too_few.ensures c.if-too_few.false c.if-product-gt-KIT.true

pub returns : goal.returns
returns c =
    let a = c.args in
    status_answered a.product a.out.now _ c.too_few.ensures c.if-too_few.false c.if-product-gt-KIT.false
