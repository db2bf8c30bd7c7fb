-- `form_tables::expected_by` meets its contract.
use mathlib.Core.Path.{sym}
use native.Mathlib.Omega.{arith}
use Rattle.stations.proofs.TableLaws.{expected_beyond, expected_past}
use Rattle.form_tables.proofs.expected_by.Goals as goal
use Rattle.form_tables.proofs.expected_by.Goals.{else-t-rows-via-then-t-rows+else-s-lt16, else-t-rows-via-else-t-rows}

pub returns-else-t-rows : goal.returns-else-t-rows
returns-else-t-rows c =
    let a = c.args in
    elim c.else-t-rows.branch [
      | else-t-rows-via-then-t-rows+else-s-lt16 w ↦ sym (expected_beyond a.stations.now a.t a.s w.if-s-lt16.false)
      | else-t-rows-via-else-t-rows w ↦ sym (expected_past a.stations.now a.t (omega (arith, w.if-t-rows.false)) a.s)
    ]
