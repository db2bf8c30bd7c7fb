-- `event_radio::check_here` meets its contract.
use native.Mathlib.Omega.{arith}
use Rattle.std.proofs.lemmas.Result.{err_from_is_err_and}
use Rattle.event_radio.proofs.Checks.{no_station_lem, no_cart_lem, is_elsewhere, steadiness}
use Rattle.event_radio.proofs.check_here.Goals as goal

pub returns-then-station_count-station : goal.returns-then-station_count-station
returns-then-station_count-station c = let a = c.args in no_station_lem a.stations.now a.carts.now a.station.0 a.cart.0 (omega (arith, c.station_count.ensures, c.if-station_count-station.true))

pub returns-then-cart_count-cart : goal.returns-then-cart_count-cart
returns-then-cart_count-cart c = let a = c.args in no_cart_lem a.stations.now a.carts.now a.station.0 a.cart.0 (omega (arith, c.station_count.ensures, c.if-station_count-station.false)) (omega (arith, c.cart_count.ensures, c.if-cart_count-cart.true))

pub check_at-requires : goal.check_at-requires
check_at-requires c = omega (arith, c.requires, c.cart_count.ensures, c.if-cart_count-cart.false)

pub returns-in_err-check_at : goal.returns-in_err-check_at
returns-in_err-check_at c =
    let a = c.args in
    let p = err_from_is_err_and c.from_residual.result c.from_residual.ensures.1 in
    rw (p.1, p.2) (is_elsewhere a.stations.now a.carts.now a.station.0 a.cart.0 (omega (arith, c.station_count.ensures, c.if-station_count-station.false)) (omega (arith, c.cart_count.ensures, c.if-cart_count-cart.false)) _ c.in_err-check_at.ensures)

pub check_steady-requires : goal.check_steady-requires
check_steady-requires c = omega (arith, c.requires, c.cart_count.ensures, c.if-cart_count-cart.false)

pub returns : goal.returns
returns c =
    let a = c.args in
    steadiness a.stations.now a.carts.now a.station.0 a.cart.0 (omega (arith, c.station_count.ensures, c.if-station_count-station.false)) (omega (arith, c.cart_count.ensures, c.if-cart_count-cart.false))
    c.in_ok-check_at.ensures _ c.check_steady.ensures
