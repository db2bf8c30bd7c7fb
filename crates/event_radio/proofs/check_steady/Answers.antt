-- `event_radio::check_steady` meets its contract.
use Rattle.event_radio.proofs.Checks.{is_settled, is_drifting}
use Rattle.event_radio.proofs.check_steady.Goals as goal

pub returns-then-not-is_steady : goal.returns-then-not-is_steady
returns-then-not-is_steady c = let a = c.args in is_drifting a.carts.now a.cart.0 c.is_steady.result c.is_steady.ensures c.if-not-is_steady.true

pub returns : goal.returns
returns c = let a = c.args in is_settled a.carts.now a.cart.0 c.is_steady.result c.is_steady.ensures c.if-not-is_steady.false
