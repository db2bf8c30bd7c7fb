-- `training_rows::call_of` meets its contract.
use native.Mathlib.Omega.{arith}
use Rattle.training_rows.proofs.RowLaws.{a_start, a_send, a_take, no_call}
use Rattle.training_rows.proofs.call_of.Goals as goal

pub returns-in-1 : goal.returns-in-1
returns-in-1 c = a_start c.args.w c.in-1.is

pub returns-in-2 : goal.returns-in-2
returns-in-2 c = a_send c.args.w c.in-2.is

pub returns-in-3 : goal.returns-in-3
returns-in-3 c = a_take c.args.w c.in-3.is

pub returns-in_default : goal.returns-in_default
returns-in_default c = no_call c.args.w (λ e. omega arith) (λ e. omega arith) (λ e. omega arith)
