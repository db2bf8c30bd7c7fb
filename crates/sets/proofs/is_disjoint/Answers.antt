-- `sets::is_disjoint` meets its contract.
use mathlib.Core.Path.{ap, ◌∙◌}
use Prim.Native.Nat.{ℕ}
use lib.Dec.{eqb}
use borrow.Author.Rules.{rules}
use Rattle.sets.proofs.MaskLaws.{disjoint_minus}
use Rattle.sets.proofs.is_disjoint.Goals as goal

pub returns : goal.returns
returns c = ap (λ (x : ℕ). eqb x c.args.a) c.minus.ensures ∙ disjoint_minus 64 c.args.a c.args.b (search rules)
