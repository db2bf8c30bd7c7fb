-- `dispatcher::lowest_steady` meets its contract.
use mathlib.Core.Path.{◌≡◌}
use mathlib.Core.Bool.{false, ◌&&◌}
use Prim.Native.Nat.{ℕ, ◌<◌}
use Rattle.protocol.specs.CartSets.{has}
use Rattle.sets.proofs.Walk.{Ahead}
use Rattle.carts.specs.View.{carts_in}
use Rattle.dispatcher.proofs.lowest_steady.Given as goal

-- the walk has come to cart k, and no cart of the set before it is steady
abbrev pub invariant-loop-c : goal.invariant-loop-c
invariant-loop-c l = (k : ℕ) × Ahead 64 l.set l.c-iterator.left k × ((d : ℕ) → d < k → has l.set d && (carts_in l.carts).steady d ≡ false)
