-- `sets::first` meets its contract.
use native.Mathlib.Omega.{arith}
use lib.Count.{trailing_le}
use borrow.Author.Rules.{rules}
use Rattle.sets.proofs.MaskLaws.{trailing_least}
use Rattle.sets.proofs.first.Goals as goal

pub returns : goal.returns
returns c = trailing_least 64 c.args.set (search rules) c.requires
