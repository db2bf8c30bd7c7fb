-- `carts::first_canonical` meets its contract.
use mathlib.Core.Path.{◌∙◌}
use native.Mathlib.Omega.{arith}
use borrow.Author.Tests.{le-ltb}
use Rattle.carts.proofs.TableLaws.{low_canonical, high_canonical}
use Rattle.carts.proofs.first_canonical.Goals as goal

pub returns-then-first : goal.returns-then-first
returns-then-first c = let a = c.args in c.are_canonical.ensures ∙ low_canonical a.first a.s a.t (omega (arith, c.if-first.true))

pub returns-else-first : goal.returns-else-first
returns-else-first c = let a = c.args in le-ltb a.first 8 (omega (arith, c.if-first.false)) ∙ high_canonical a.first a.s a.t (omega (arith, c.if-first.false))
