-- `form_lines::movers` meets its contract.
use mathlib.Core.Path.{◌≡◌}
use Prim.Native.Nat.{◌≤◌}
use Rattle.protocol.specs.CartSets.{set_of}
use Rattle.protocol.specs.Floor.{moving}
use Rattle.carts.specs.View.{carts_in}
use Rattle.form_lines.proofs.movers.Given as goal

abbrev pub invariant-loop-cart : goal.invariant-loop-cart
invariant-loop-cart l = (l.cart ≤ l.k) × (l.set ≡ set_of l.cart (λ x. moving ((carts_in l.carts).place x)))
