-- `carts::place_of` meets its contract.
use mathlib.Core.Path.{◌∙◌}
use Rattle.carts.proofs.TableLaws.{place_read}
use Rattle.carts.proofs.place_of.Goals as goal

pub returns : goal.returns
returns c = c.from.ensures ∙ place_read c.args.carts.now c.args.number.0
