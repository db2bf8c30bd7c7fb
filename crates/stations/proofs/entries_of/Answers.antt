-- `stations::entries_of` meets its contract.
use mathlib.Core.Path.{◌∙◌, ap}
use Prim.Native.Nat.{ℕ}
use Rattle.protocol.specs.CartSets.{has, set_of}
use Rattle.stations.specs.View.{rooms}
use Rattle.stations.proofs.entries_of.Goals as goal

pub returns : goal.returns
returns c = c.rooms_among.ensures ∙ ap (λ (x : ℕ). set_of rooms (has x)) c.word_of.ensures
