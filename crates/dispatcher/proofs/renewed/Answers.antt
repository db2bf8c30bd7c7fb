-- `dispatcher::renewed` meets its contract.
use Rattle.view.specs.Records.{lines_in}
use Rattle.dispatcher.proofs.BusyLaws.{none_put, some_put}
use Rattle.dispatcher.proofs.renewed.Goals as goal

pub returns-then-records-eq0 : goal.returns-then-records-eq0
returns-then-records-eq0 c =
    let a = c.args in
    none_put (lines_in a.lines.now) _ a.station.0 a.records c.if-records-eq0.true

pub returns : goal.returns
returns c =
    let a = c.args in
    some_put (lines_in a.lines.now) _ a.station.0 a.records c.if-records-eq0.false _ _ c.row_from-row.ensures c.put_row.ensures
