-- `event_carts::check_enter` meets its contract.
use borrow.Enum.Refused.{opened}
use native.Mathlib.Omega.{arith}
use Rattle.event_carts.proofs.EnterChecks.{enter_no_station, enter_no_cart, enter_passes, enter_entered}
use Rattle.event_carts.proofs.check_enter.Goals as goal

pub returns-then-station_count-station : goal.returns-then-station_count-station
returns-then-station_count-station c = let a = c.args in λ P M W T O. enter_no_station a.stations.now a.carts.now a.station.0 a.cart.0 P M W T O (omega (arith, c.station_count.ensures, c.if-station_count-station.true))

pub returns-then-cart_count-cart : goal.returns-then-cart_count-cart
returns-then-cart_count-cart c = let a = c.args in λ P M W T O. enter_no_cart a.stations.now a.carts.now a.station.0 a.cart.0 P M W T O (omega (arith, c.station_count.ensures, c.if-station_count-station.false)) (omega (arith, c.cart_count.ensures, c.if-cart_count-cart.true))

pub place_of-place-requires : goal.place_of-place-requires
place_of-place-requires c = let p = c.requires in omega (arith, p, c.cart_count.ensures, c.if-cart_count-cart.false)

pub returns-in-Outside : goal.returns-in-Outside
returns-in-Outside c = let a = c.args in λ P M W T O. enter_passes a.stations.now a.carts.now a.station.0 a.cart.0 P M W T O (omega (arith, c.station_count.ensures, c.if-station_count-station.false)) (omega (arith, c.cart_count.ensures, c.if-cart_count-cart.false)) c.place_of-place.result c.place_of-place.ensures c.in-Outside.in-Outside-own.keys1

pub returns-in_default : goal.returns-in_default
returns-in_default c = let a = c.args in λ P M W T O. enter_entered a.stations.now a.carts.now a.station.0 a.cart.0 P M W T O (omega (arith, c.station_count.ensures, c.if-station_count-station.false)) (omega (arith, c.cart_count.ensures, c.if-cart_count-cart.false)) c.place_of-place.result c.place_of-place.ensures (opened c.in_default.in_default-own.keys2)
