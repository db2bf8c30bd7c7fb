-- `dispatcher::taken_off` meets its contract.
use Rattle.dispatcher.proofs.BusyLaws.{off_stays, off_empty}
use mathlib.Core.Bool.{not}
use mathlib.Core.Path.{ap}
use Rattle.dispatcher.proofs.taken_off.Goals as goal

pub returns-then-not-is_empty : goal.returns-then-not-is_empty
returns-then-not-is_empty c =
    let a = c.args in
    off_stays a.lines.now a.from.0 a.to.0 c.requires.0 c.requires.1 _ c.is_empty.ensures _ (ap not c.if-not-is_empty.true)

pub returns : goal.returns
returns c =
    let a = c.args in
    off_empty a.lines.now a.from.0 a.to.0 c.requires.0 c.requires.1 _ c.is_empty.ensures _ (ap not c.if-not-is_empty.false) _ _ c.without_member-row.ensures c.put_row.ensures
