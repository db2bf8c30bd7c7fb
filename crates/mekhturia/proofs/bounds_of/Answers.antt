-- `mekhturia::bounds_of` meets its contract.
use borrow.Author.Rules.{rules}
use Rattle.mekhturia.proofs.Statuses.{floor_by_number, kit_by_number}
use Rattle.mekhturia.proofs.bounds_of.Goals as goal

pub returns-then-product-eq-FLOOR : goal.returns-then-product-eq-FLOOR
returns-then-product-eq-FLOOR c = floor_by_number c.args.product _ c.if-product-eq-FLOOR.true c.floor_bounds.ensures

pub returns : goal.returns
returns c = kit_by_number c.args.product _ c.if-product-eq-FLOOR.false c.kit_bounds.ensures
