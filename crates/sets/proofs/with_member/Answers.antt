-- `sets::with_member` meets its contract.
use mathlib.Core.Path.{ap, ◌∙◌}
use borrow.Author.Rules.{rules}
use Rattle.protocol.specs.CartSets.{with, union}
use Rattle.sets.proofs.MaskLaws.{one_shifted}
use Rattle.sets.proofs.with_member.Goals as goal

pub returns : goal.returns
unfolding with
returns c = c.union.ensures ∙ ap (union c.args.set) (one_shifted c.args.member (search rules))
