-- A FLAG OVER THE LENT PARTS IS THE WRITTEN FLAG: the floor that they then say is the floor of the written step.
use mathlib.Core.Path.{◌≡◌, refl, sym, ap, ◌∙◌}
use mathlib.Core.Bool.{Bool, cond}
use mathlib.Core.List.{List, []}
use Prim.Native.Nat.{ℕ}
use native.Mathlib.Omega.{arith}
use Rattle.protocol.specs.Floor.{Floor, Carts, Product}
use Rattle.protocol.specs.Handoff.{on_flag}
use Rattle.protocol.proofs.Accepted.{MayFlag}
use Rattle.stations.specs.View.{head_in, stations_in}
use Rattle.carts.specs.Words.{HasRow}
use Rattle.messages.specs.View.{rooms_in}
use Rattle.store.specs.Texts.{text_of}
use Rattle.view.specs.Records.{lines_in}
use Rattle.view.specs.View.{Lent, lent, floor_of, floor_in}
use Rattle.view.proofs.Lengths.{Lengths, lengths_right_lem}
use Rattle.view.proofs.Laid.{Laid, words_right_lem, laid_flags}
use Rattle.view.proofs.Standing.{Standing, few_carts}
use Rattle.handoff.specs.Flagged.{Flagged}

-- WHAT THE FLAG REQUIRES of the parts: a row for the cart
pub flag_ready : (L : Lent) (X : Standing L) (c : ℕ) → MayFlag (floor_in L) c → HasRow L.carts c
flag_ready L X c may =
    let a = X.lengths.carts in
    let b = may.cart in
    let d = few_carts L X in
    let e = X.sized.counts.carts in
    omega arith

module _ {P : Product} (S C C' M W T O : List ℕ) (c : ℕ) (b : Bool) (X : Standing (lent P S C M W T O)) (flagged : Flagged C C' c b) where
  abbrev L : Lent
  L = lent P S C M W T O

  abbrev L' : Lent
  L' = lent P S C' M W T O

  lengths : Lengths L'
  lengths =
      record {
        stations = X.lengths.stations;
        carts = flagged.length ∙ X.lengths.carts;
        messages = X.lengths.messages;
        lines = X.lengths.lines;
        texts = X.lengths.texts;
        store = X.lengths.store;
      }

  pub laid : Laid L'
  laid = laid_flags S C M W T O X.laid C' c flagged.canonical (ap (λ (K : Carts). K.place) flagged.carts)

  -- the cart is told, and all else is as it was
  pub flag_is : floor_in L' ≡ (on_flag (floor_in L) c b).floor
  unfolding on_flag
  flag_is =
      λ i. floor_of ((lengths_right_lem L' lengths ∙ sym (lengths_right_lem L X.lengths)) i) ((words_right_lem L' laid ∙ sym (words_right_lem L X.laid)) i)
      (head_in S) (stations_in S) (flagged.carts i) (rooms_in M) (text_of T O (rooms_in M)) (lines_in W)

-- "It prints cart and flag with p = 0 and w = 0"
pub flag_reports : (F : Floor) (c : ℕ) (b : Bool) → (on_flag F c b).report ≡ record { kind = 6; a = c; b = cond b 1 0; p = 0; w = 0; q = 0; text = [] }
unfolding on_flag
flag_reports F c b = refl
