-- `carts::is_canonical` meets its contract.
use mathlib.Core.Path.{◌∙◌}
use Rattle.carts.proofs.TableLaws.{canonical_read}
use Rattle.carts.proofs.is_canonical.Goals as goal

pub returns : goal.returns
returns c = c.first_canonical.ensures ∙ canonical_read c.args.carts.now c.args.number.0
