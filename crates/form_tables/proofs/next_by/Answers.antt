-- `form_tables::next_by` meets its contract.
use mathlib.Core.Path.{sym}
use Rattle.carts.proofs.TableLaws.{next_beyond}
use Rattle.form_tables.proofs.next_by.Goals as goal

pub returns-else-s-lt16 : goal.returns-else-s-lt16
returns-else-s-lt16 c = sym (next_beyond c.args.carts.now c.args.number.0 c.args.s c.if-s-lt16.false)
