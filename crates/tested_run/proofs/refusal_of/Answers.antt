-- `tested_run::refusal_of` meets its contract.
use borrow.Enum.Refused.{opened}
use borrow.Author.Rules.{rules}
use Rattle.tested_run.proofs.StuckLaws.{other_number}
use Rattle.tested_run.proofs.refusal_of.Goals as goal

pub returns-in_default : goal.returns-in_default
returns-in_default c = other_number c.args.lengths c.args.e (opened c.in_default.in_default-own.keys2)
