-- `dispatcher::next_radio` meets its contract.
use mathlib.Core.Path.{◌≡◌}
use mathlib.Core.Bool.{true}
use mathlib.Core.List.{List}
use Prim.Native.Nat.{ℕ}
use Rattle.protocol.specs.Floor.{Product, limits_of}
use Rattle.protocol.specs.Form.{passes_form}
use Rattle.sets.proofs.Walk.{Ahead}
use Rattle.view.specs.View.{lent, floor_in}
use Rattle.dispatcher.specs.Choice.{AllEmpty}
use Rattle.dispatcher.proofs.Choices.{Nobody}
use Rattle.dispatcher.proofs.next_radio.Given as goal

-- the walk has come to station k, and nobody would receive at the stations before it
abbrev pub invariant-loop-t : goal.invariant-loop-t
invariant-loop-t l =
    (k : ℕ) × Ahead 64 l.queued l.t-iterator.left k
    × ((P : Product) (W T O : List ℕ) (p : passes_form (limits_of P) (floor_in (lent P l.stations l.carts l.messages W T O)) ≡ true) (empty : AllEmpty (floor_in (lent P l.stations l.carts l.messages W T O)))
    → Nobody P l.stations l.carts l.messages W T O p empty k)
