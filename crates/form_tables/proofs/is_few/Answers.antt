-- `form_tables::is_few` meets its contract.
use native.Mathlib.Omega.{arith}
use borrow.Author.Tests.{le-ltb}
use Rattle.protocol.specs.Claims.{lt, le}
use Rattle.form_tables.proofs.Chains.{le_is, both_yes, both_no}
use Rattle.form_tables.proofs.is_few.Goals as goal

pub returns-then-count-gt0 : goal.returns-then-count-gt0
returns-then-count-gt0 c = let a = c.args in both_yes (lt 0 a.count) (le a.count a.rows) _ c.if-count-gt0.true (le_is a.count a.rows)

pub returns-else-count-gt0 : goal.returns-else-count-gt0
returns-else-count-gt0 c = let a = c.args in both_no (lt 0 a.count) (le a.count a.rows) _ (λ h. omega (arith, h, c.if-count-gt0.false)) (le-ltb 0 a.count (omega (arith, c.if-count-gt0.false)))
