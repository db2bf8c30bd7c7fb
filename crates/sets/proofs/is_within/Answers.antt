-- `sets::is_within` meets its contract.
use mathlib.Core.Path.{ap, ◌∙◌}
use Prim.Native.Nat.{ℕ}
use lib.Dec.{eqb}
use borrow.Author.Rules.{rules}
use Rattle.sets.proofs.MaskLaws.{within_minus}
use Rattle.sets.proofs.is_within.Goals as goal

pub returns : goal.returns
returns c = ap (λ (x : ℕ). eqb x 0) c.minus.ensures ∙ within_minus 64 c.args.a c.args.b (search rules)
