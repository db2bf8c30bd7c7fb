-- A START OVER THE LENT PARTS IS THE WRITTEN START: the floor that they then say is the floor that an accepted start leaves.
use mathlib.Core.Path.{◌≡◌, ◌∙◌}
use mathlib.Core.List.{List}
use Prim.Native.Nat.{ℕ}
use Rattle.protocol.specs.Floor.{Product, limits_of, Floor, just_started}
use Rattle.protocol.specs.Events.{start}
use Rattle.protocol.specs.Step.{accept}
use Rattle.view.specs.View.{Lent, lent, floor_in}
use Rattle.view.proofs.Lengths.{Lengths}
use Rattle.view.proofs.Laid.{Laid}
use Rattle.view.proofs.Started.{laid_start, start_view}
use Rattle.wired_send.specs.Begun.{Begun}

module _ {P : Product} (S S' C C' M M' W W' T O : List ℕ) (n k : ℕ) (sizes : Lengths (lent P S C M W T O)) (begun : Begun S S' C C' M M' W W' n k) where
  abbrev L' : Lent
  L' = lent P S' C' M' W' T O

  lengths : Lengths L'
  lengths =
      record {
        stations = begun.station_words ∙ sizes.stations;
        carts = begun.cart_words ∙ sizes.carts;
        messages = begun.room_words ∙ sizes.messages;
        lines = begun.lines.words ∙ sizes.lines;
        texts = sizes.texts;
        store = sizes.store;
      }

  pub laid : Laid L'
  laid = laid_start S' C' M' W W' T O n k begun.top begun.stations begun.carts begun.canonical begun.rooms begun.lines lengths

  -- "it writes all the rest afresh"
  pub start_is : floor_in L' ≡ just_started n k
  start_is = start_view S' C' M' W W' T O n k begun.top begun.stations begun.carts begun.canonical begun.rooms begun.lines lengths

  -- so of an accepted start on any floor
  pub accepted_start : (F : Floor) → floor_in L' ≡ (accept (limits_of P) F (start n k)).floor
  unfolding accept
  accepted_start F = start_is
