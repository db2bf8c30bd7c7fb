-- `form_tables::are_below` meets its contract.
use native.Mathlib.Omega.{arith}
use borrow.Author.Tests.{le-ltb}
use Rattle.protocol.specs.Claims.{lt}
use Rattle.form_tables.proofs.Chains.{lt_is, both_yes, both_no}
use Rattle.form_tables.proofs.are_below.Goals as goal

pub returns-then-s-n : goal.returns-then-s-n
returns-then-s-n c = let a = c.args in both_yes (lt a.s a.n) (lt a.t a.n) _ c.if-s-n.true (lt_is a.t a.n)

pub returns-else-s-n : goal.returns-else-s-n
returns-else-s-n c = let a = c.args in both_no (lt a.s a.n) (lt a.t a.n) _ (λ h. omega arith) (le-ltb a.s a.n c.if-s-n.false)
