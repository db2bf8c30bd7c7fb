use mathlib.Core.Path.{refl}
use native.Mathlib.Omega.{arith}
use Rattle.view.specs.Records.{lines_in}
use Rattle.dispatcher.specs.Busy.{busy}
use Rattle.dispatcher.proofs.BusyLaws.{rows_none, rows_more, rows_all}
use Rattle.dispatcher.proofs.busy_lines.Goals as goal

pub loop-i-init : goal.loop-i-init
loop-i-init c = rows_none (lines_in c.args.lines.now) _ c.requires.0 refl

pub put_row-sources-requires : goal.put_row-sources-requires
put_row-sources-requires c = (omega arith, c.loop-i.invariant.shaped.size)

pub loop-i-preserved : goal.loop-i-preserved
loop-i-preserved c =
    let l = c.loop-i in
    let a = c.args in
    rows_more (lines_in a.lines.now) (busy l.targets l.sources) _ l.i c.row_from-row.result l.invariant (omega arith) c.row_from-row.ensures c.put_row-sources.ensures

pub shape_of-targets : goal.shape_of-targets
shape_of-targets c = omega (arith, c.loop-i.invariant.shaped.size, c.requires.0)

pub returns : goal.returns
returns c =
    let l = c.loop-i in
    let a = c.args in
    let within = l.invariant.within in
    rows_all (lines_in a.lines.now) (busy l.targets l.sources) l.i l.invariant (omega arith)
