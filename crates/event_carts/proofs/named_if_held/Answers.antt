-- `event_carts::named_if_held` meets its contract.
use Rattle.messages.specs.View.{rooms_in}
use Rattle.event_carts.proofs.RetireChecks.{free_names_none, held_names_its}
use Rattle.event_carts.proofs.named_if_held.Goals as goal

pub returns-then-waiting_of-eq0 : goal.returns-then-waiting_of-eq0
returns-then-waiting_of-eq0 c = let a = c.args in free_names_none (rooms_in a.messages.now) a.m _ c.waiting_of.ensures c.if-waiting_of-eq0.true

pub returns : goal.returns
returns c =
    let a = c.args in
    let w = c.waiting_of in
    held_names_its (rooms_in a.messages.now) a.m _ w.ensures c.if-waiting_of-eq0.false _ c.named_of.ensures
