-- `event_radio::check_at` meets its contract.
use Rattle.event_radio.proofs.Checks.{is_here_lem, is_there, is_leaving_lem, is_away}
use borrow.Author.Tests.{eqb-true, eqb-false}
use mathlib.Core.Path.{sym}
use Rattle.event_radio.proofs.check_at.Goals as goal

pub returns-then-eq : goal.returns-then-eq
returns-then-eq c =
    let a = c.args in
    is_here_lem a.carts.now a.station.0 a.cart.0 c.place_of-place.result c.place_of-place.ensures _ c.in-At.is (eqb-true c.in-At.here.0 a.station.0 (sym c.if-eq.ensures))

pub returns-else-eq : goal.returns-else-eq
returns-else-eq c =
    let a = c.args in
    is_there a.carts.now a.station.0 a.cart.0 c.place_of-place.result c.place_of-place.ensures _ c.in-At.is (eqb-false c.in-At.here.0 a.station.0 (sym c.if-eq.ensures))

pub returns-in-Leaving : goal.returns-in-Leaving
returns-in-Leaving c =
    let a = c.args in
    is_leaving_lem a.carts.now a.station.0 a.cart.0 c.place_of-place.result c.place_of-place.ensures c.in-Leaving.in-Leaving-own.keys2

pub returns-in_default : goal.returns-in_default
returns-in_default c =
    let a = c.args in
    is_away a.carts.now a.station.0 a.cart.0 c.place_of-place.result c.place_of-place.ensures c.in_default.in_default-own.keys3
