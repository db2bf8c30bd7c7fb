-- `form_tables::place_ok` meets its contract.
use mathlib.Core.Path.{ap}
use Rattle.carts.specs.Records.{seen}
use Rattle.form_tables.proofs.Places.{inside_outside, inside_at}
use Rattle.form_tables.proofs.place_ok.Goals as goal

pub returns-in-Outside : goal.returns-in-Outside
returns-in-Outside c = λ F e. inside_outside F _ (ap seen c.in-Outside.is)

pub returns-in-At : goal.returns-in-At
returns-in-At c = λ F e. inside_at F _ _ c.args.n e (ap seen c.in-At.is)
