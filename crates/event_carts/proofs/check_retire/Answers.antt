-- `event_carts::check_retire` meets its contract.
use native.Mathlib.Omega.{arith}
use Rattle.event_carts.proofs.RetireChecks.{retire_no_cart, retire_outside, retire_away, retire_named, retire_passes}
use Rattle.event_carts.proofs.check_retire.Goals as goal

pub returns-then-cart_count-cart-clause-refusal : goal.returns-then-cart_count-cart-clause-refusal
returns-then-cart_count-cart-clause-refusal c =
    let a = c.args in
    λ P W T O all. retire_no_cart a.stations.now a.carts.now a.messages.now a.cart.0 P W T O
    (omega (arith, c.cart_count.ensures, c.if-cart_count-cart.true))

pub has-requires : goal.has-requires
has-requires c = omega (arith, c.requires, c.cart_count.ensures, c.if-cart_count-cart.false)

pub returns-in-Outside-clause-refusal : goal.returns-in-Outside-clause-refusal
returns-in-Outside-clause-refusal c =
    let a = c.args in
    let met = c.place_of-place in
    λ P W T O all. retire_outside a.stations.now a.carts.now a.messages.now a.cart.0 P W T O
    (omega (arith, c.cart_count.ensures, c.if-cart_count-cart.false)) met.result met.ensures c.in-Outside.in-Outside-own.keys1

pub returns-then-has-clause-refusal : goal.returns-then-has-clause-refusal
returns-then-has-clause-refusal c =
    let a = c.args in
    let met = c.place_of-place in
    let names = c.held_names in
    let named = c.has in
    λ P W T O all. retire_named a.stations.now a.carts.now a.messages.now a.cart.0 P W T O
    (omega (arith, c.cart_count.ensures, c.if-cart_count-cart.false)) met.result met.ensures c.in-At.in-At-own.keys2
    _ names.result names.ensures all named.result named.ensures c.if-has.true

pub returns-else-has-clause-refusal : goal.returns-else-has-clause-refusal
returns-else-has-clause-refusal c =
    let a = c.args in
    let met = c.place_of-place in
    let names = c.held_names in
    let named = c.has in
    λ P W T O all. retire_passes a.stations.now a.carts.now a.messages.now a.cart.0 P W T O
    (omega (arith, c.cart_count.ensures, c.if-cart_count-cart.false)) met.result met.ensures c.in-At.in-At-own.keys2
    _ names.result names.ensures all named.result named.ensures c.if-has.false

pub returns-in_default-clause-refusal : goal.returns-in_default-clause-refusal
returns-in_default-clause-refusal c =
    let a = c.args in
    let met = c.place_of-place in
    λ P W T O all. retire_away a.stations.now a.carts.now a.messages.now a.cart.0 P W T O
    (omega (arith, c.cart_count.ensures, c.if-cart_count-cart.false)) met.result met.ensures c.in_default.in_default-own.keys3
