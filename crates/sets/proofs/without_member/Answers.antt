-- `sets::without_member` meets its contract.
use mathlib.Core.Path.{ap, ◌∙◌}
use borrow.Author.Rules.{rules}
use Rattle.protocol.specs.CartSets.{without, minus}
use Rattle.sets.proofs.MaskLaws.{one_shifted}
use Rattle.sets.proofs.without_member.Goals as goal

pub returns : goal.returns
unfolding without
returns c = c.minus.ensures ∙ ap (minus c.args.set) (one_shifted c.args.member (search rules))
