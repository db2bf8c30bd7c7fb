-- `frame_run::without_text` meets its contract.
use mathlib.Core.Path.{ap}
use Rattle.std.specs.Prelude.{Result}
use Rattle.refusals.specs.declared.Refusal.{Refusal}
use Rattle.frame_run.specs.declared.Done.{Done}
use Rattle.frame_run.proofs.without_text.Goals as goal

pub returns : goal.returns
returns c = ap (λ (d : Result Done Refusal). record { next = c.args.next; answer = d; taken = c.args.taken }) c.done_of.ensures
