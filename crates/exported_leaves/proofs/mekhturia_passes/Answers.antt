-- `exported_leaves::mekhturia_passes` meets its contract.
use Rattle.protocol.specs.Floor.{whole_floor}
use borrow.Author.Rules.{rules}
use Rattle.exported_leaves.proofs.mekhturia_passes.Goals as goal

pub passes-requires : goal.passes-requires
passes-requires c = c.floor_bounds.ensures.0

pub returns : goal.returns
returns c = c.passes.ensures whole_floor c.floor_bounds.ensures.1
