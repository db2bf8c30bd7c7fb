-- `event_carts::check_move` meets its contract.
use mathlib.Core.Path.{sym, ◌∙◌}
use borrow.Author.Tests.{eqb-true}
use native.Mathlib.Omega.{arith}
use Rattle.event_carts.proofs.MoveChecks.{move_no_station, move_no_cart, move_outside, move_leaving, move_travelling, move_there, move_passes}
use Rattle.event_carts.proofs.check_move.Goals as goal

pub returns-then-station_count-to-clause-refusal : goal.returns-then-station_count-to-clause-refusal
returns-then-station_count-to-clause-refusal c = let a = c.args in λ P M W T O. move_no_station a.stations.now a.carts.now a.cart.0 a.to.0 P M W T O (omega (arith, c.station_count.ensures, c.if-station_count-to.true))

pub returns-then-cart_count-cart-clause-refusal : goal.returns-then-cart_count-cart-clause-refusal
returns-then-cart_count-cart-clause-refusal c = let a = c.args in λ P M W T O. move_no_cart a.stations.now a.carts.now a.cart.0 a.to.0 P M W T O (omega (arith, c.station_count.ensures, c.if-station_count-to.false)) (omega (arith, c.cart_count.ensures, c.if-cart_count-cart.true))

pub place_of-place-requires : goal.place_of-place-requires
place_of-place-requires c = let p = c.requires in omega (arith, p, c.cart_count.ensures, c.if-cart_count-cart.false)

pub returns-in-Outside-clause-refusal : goal.returns-in-Outside-clause-refusal
returns-in-Outside-clause-refusal c = let a = c.args in λ P M W T O. move_outside a.stations.now a.carts.now a.cart.0 a.to.0 P M W T O (omega (arith, c.station_count.ensures, c.if-station_count-to.false)) (omega (arith, c.cart_count.ensures, c.if-cart_count-cart.false)) c.place_of-place.result c.place_of-place.ensures c.in-Outside.in-Outside-own.keys1

pub returns-in-Leaving-clause-refusal : goal.returns-in-Leaving-clause-refusal
returns-in-Leaving-clause-refusal c = let a = c.args in λ P M W T O. move_leaving a.stations.now a.carts.now a.cart.0 a.to.0 P M W T O (omega (arith, c.station_count.ensures, c.if-station_count-to.false)) (omega (arith, c.cart_count.ensures, c.if-cart_count-cart.false)) c.place_of-place.result c.place_of-place.ensures c.in-Leaving.in-Leaving-own.keys2

pub returns-in-Travelling-clause-refusal : goal.returns-in-Travelling-clause-refusal
returns-in-Travelling-clause-refusal c = let a = c.args in λ P M W T O. move_travelling a.stations.now a.carts.now a.cart.0 a.to.0 P M W T O (omega (arith, c.station_count.ensures, c.if-station_count-to.false)) (omega (arith, c.cart_count.ensures, c.if-cart_count-cart.false)) c.place_of-place.result c.place_of-place.ensures c.in-Travelling.in-Travelling-own.keys3

pub returns-then-eq-clause-refusal : goal.returns-then-eq-clause-refusal
returns-then-eq-clause-refusal c = let a = c.args in λ P M W T O. move_there a.stations.now a.carts.now a.cart.0 a.to.0 P M W T O (omega (arith, c.station_count.ensures, c.if-station_count-to.false)) (omega (arith, c.cart_count.ensures, c.if-cart_count-cart.false)) c.place_of-place.result c.place_of-place.ensures c.in-At.here c.in-At.is (eqb-true _ _ (sym c.eq.ensures ∙ c.if-eq.true))

pub returns-else-eq-clause-refusal : goal.returns-else-eq-clause-refusal
returns-else-eq-clause-refusal c = let a = c.args in λ P M W T O. move_passes a.stations.now a.carts.now a.cart.0 a.to.0 P M W T O (omega (arith, c.station_count.ensures, c.if-station_count-to.false)) (omega (arith, c.cart_count.ensures, c.if-cart_count-cart.false)) c.place_of-place.result c.place_of-place.ensures c.in-At.here c.in-At.is (λ e. grind arith)
