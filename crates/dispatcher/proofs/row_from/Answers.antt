use native.Mathlib.Omega.{arith}
use Rattle.view.specs.Records.{lines_in}
use Rattle.dispatcher.proofs.BusyLaws.{row_none, row_more, row_all}
use Rattle.dispatcher.proofs.row_from.Goals as goal

pub loop-j-init : goal.loop-j-init
loop-j-init c = (omega arith, row_none (lines_in c.args.lines.now) c.args.i)

pub loop-j-preserved : goal.loop-j-preserved
loop-j-preserved c =
    let l = c.loop-j in
    (omega arith, row_more c.args.lines.now c.args.i l.j l.row c.with_if-row.result c.is_empty.result c.requires.0 (omega arith) l.invariant.1 c.is_empty.ensures c.with_if-row.ensures)

pub returns : goal.returns
returns c =
    let l = c.loop-j in
    row_all (lines_in c.args.lines.now) c.args.i l.j l.row (omega arith) l.invariant.1
