-- `dispatcher::busy_lines` meets its contract.
use Rattle.view.specs.Records.{lines_in}
use Rattle.dispatcher.specs.Busy.{busy}
use Rattle.dispatcher.proofs.BusyLaws.{FirstRows}
use Rattle.dispatcher.proofs.busy_lines.Given as goal

abbrev pub invariant-loop-i : goal.invariant-loop-i
invariant-loop-i l = FirstRows (lines_in l.lines) (busy l.targets l.sources) l.i
