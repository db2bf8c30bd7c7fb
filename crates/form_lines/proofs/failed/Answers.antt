-- `form_lines::failed` meets its contract.
use Rattle.form_lines.proofs.StepLaws.{fails}
use Rattle.form_lines.proofs.failed.Goals as goal

pub returns : goal.returns
returns c = λ seen. fails c.args.way seen
