-- `sets::without_first` meets its contract.
use borrow.Author.Rules.{rules}
use Rattle.sets.proofs.MaskLaws.{least_lowest, drop_lowest}
use Rattle.sets.proofs.without_first.Goals as goal

pub returns : goal.returns
returns c = λ t e. drop_lowest 64 c.args.set t (search rules) c.requires (least_lowest 64 c.args.set t (search rules) c.requires e)
