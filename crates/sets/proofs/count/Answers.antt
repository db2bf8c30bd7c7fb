-- `sets::count` meets its contract.
use native.Mathlib.Omega.{arith}
use lib.Count.{ones-le}
use borrow.Author.Rules.{rules}
use Rattle.sets.proofs.MaskLaws.{ones_size}
use Rattle.sets.proofs.count.Goals as goal

pub returns : goal.returns
returns c = ones_size 64 c.args.set (search rules)
