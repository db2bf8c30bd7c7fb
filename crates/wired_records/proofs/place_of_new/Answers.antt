-- `wired_records::place_of_new` meets its contract.
use Rattle.wired_records.proofs.Stores.{none_queued, some_queued}
use Rattle.wired_records.proofs.place_of_new.Goals as goal

pub returns-then-queued-eq0 : goal.returns-then-queued-eq0
returns-then-queued-eq0 c = none_queued _ _ c.if-queued-eq0.true

pub returns : goal.returns
returns c = some_queued _ _ c.if-queued-eq0.false _ c.place_of.ensures
