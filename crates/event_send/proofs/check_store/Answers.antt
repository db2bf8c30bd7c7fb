-- `event_send::check_store` meets its contract.
use Rattle.event_send.proofs.SendChecks.{store_has_room, store_is_full_lem}
use Rattle.event_send.proofs.check_store.Goals as goal

pub returns-then-not-has_room : goal.returns-then-not-has_room
returns-then-not-has_room c = let a = c.args in let t = c.has_room in store_is_full_lem a.held a.messages.now a.text.now t.result t.ensures c.if-not-has_room.true

pub returns : goal.returns
returns c = let a = c.args in let t = c.has_room in store_has_room a.held a.messages.now a.text.now t.result t.ensures c.if-not-has_room.false
