-- `dispatcher::put_row` meets its contract.
use mathlib.Core.Path.{ap}
use lib.ListN.{set}
use Rattle.dispatcher.specs.Busy.{busy}
use Rattle.dispatcher.proofs.put_row.Goals as goal

pub returns : goal.returns
returns c =
    let a = c.args in
    ap (busy (set a.targets.now a.i a.row)) c.with_if_any.ensures
