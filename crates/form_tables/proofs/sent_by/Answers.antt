-- `form_tables::sent_by` meets its contract.
use mathlib.Core.Path.{sym}
use native.Mathlib.Omega.{arith}
use Rattle.stations.proofs.TableLaws.{sent_past}
use Rattle.form_tables.proofs.sent_by.Goals as goal

pub returns-else-s-rows : goal.returns-else-s-rows
returns-else-s-rows c = let f = c.if-s-rows.false in sym (sent_past c.args.stations.now c.args.s (omega arith))
