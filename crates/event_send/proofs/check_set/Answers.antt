-- `event_send::check_set` meets its contract.
use Rattle.view.specs.View.{lent, floor_in}
use Rattle.event_send.proofs.SetChecks.{set_empty, set_named}
use Rattle.event_send.proofs.check_set.Goals as goal

pub returns-then-set-eq0 : goal.returns-then-set-eq0
returns-then-set-eq0 c =
    let a = c.args in
    λ P M W T O. set_empty (floor_in (lent P a.stations.now a.carts.now M W T O)) a.set c.if-set-eq0.true

pub returns : goal.returns
returns c =
    let a = c.args in
    λ P M W T O. set_named (floor_in (lent P a.stations.now a.carts.now M W T O)) a.set c.if-set-eq0.false _ (c.check_named.ensures P M W T O)
