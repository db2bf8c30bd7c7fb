-- `dispatcher::queue_seen` meets its contract.
use mathlib.Core.Path.{ap, ◌∙◌}
use Rattle.dispatcher.specs.Busy.{with_if_any}
use Rattle.dispatcher.proofs.queue_seen.Goals as goal

pub returns : goal.returns
returns c =
    let a = c.args in
    c.with_if_any.ensures ∙ ap (with_if_any a.queued a.station.0) c.entries_of.ensures
