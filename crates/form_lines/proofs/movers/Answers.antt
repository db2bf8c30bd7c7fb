use mathlib.Core.Path.{refl, ap, ◌∙◌, ◌≡◌}
use Prim.Native.Nat.{ℕ}
use native.Mathlib.Omega.{arith}
use Rattle.protocol.specs.CartSets.{set_of}
use Rattle.protocol.specs.Floor.{moving}
use Rattle.carts.specs.View.{carts_in}
use Rattle.form_lines.specs.Pass.{movers}
use Rattle.form_lines.proofs.PassLaws.{set_next}
use Rattle.form_lines.proofs.movers.Goals as goal

pub loop-cart-init : goal.loop-cart-init
unfolding set_of
loop-cart-init c = (omega arith, refl)

pub place_of-place-requires : goal.place_of-place-requires
place_of-place-requires c = omega arith

pub with_if-set-requires : goal.with_if-set-requires
with_if-set-requires c = omega arith

pub loop-cart-preserved : goal.loop-cart-preserved
loop-cart-preserved c = (omega arith, set_next (λ x. moving ((carts_in c.args.carts.now).place x)) c.loop-cart.cart c.loop-cart.set c.with_if-set.result c.is_moving.result c.loop-cart.invariant.1 (c.is_moving.ensures ∙ ap moving c.place_of-place.ensures) c.with_if-set.ensures)

pub returns : goal.returns
unfolding movers
returns c = c.loop-cart.invariant.1 ∙ ap (λ (x : ℕ). set_of x (λ x. moving ((carts_in c.args.carts.now).place x))) (let z : c.loop-cart.cart ≡ c.args.k = omega arith in z)
