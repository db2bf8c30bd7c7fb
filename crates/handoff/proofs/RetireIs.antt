-- A RETIREMENT OVER THE LENT PARTS IS THE WRITTEN ONE: the floor that they then say is the floor of the written step.
use mathlib.Core.Path.{◌≡◌, refl, sym, ap, ◌∙◌}
use mathlib.Core.Bool.{Bool, true}
use mathlib.Core.List.{List, []}
use Prim.Native.Nat.{ℕ, ◌<◌}
use borrow.Author.Tests.{ne_eqb}
use Rattle.protocol.specs.Folds.{update}
use Rattle.protocol.specs.CartSets.{without, set_of}
use Rattle.protocol.specs.Floor.{Floor, Place, Carts, Product, limits_of, outside, at, local_to, station_of}
use Rattle.protocol.specs.Handoff.{on_retire}
use Rattle.protocol.proofs.Tests.{on_update}
use Rattle.protocol.proofs.FloorLaws.{at_home}
use Rattle.protocol.proofs.Accepted.{MayRetire}
use Rattle.stations.specs.View.{HasStation, Stations, stations_in}
use Rattle.carts.specs.Words.{HasRow}
use Rattle.carts.specs.View.{carts_in, canonical_in}
use Rattle.messages.specs.View.{rooms_in}
use Rattle.store.specs.Texts.{text_of}
use Rattle.view.specs.Records.{lines_in}
use Rattle.view.specs.View.{Lent, lent, floor_of, floor_in}
use Rattle.view.proofs.Lengths.{Lengths, lengths_right_lem}
use Rattle.view.proofs.Laid.{Laid, words_right_lem, local_stays, local_leaves, laid_carts}
use Rattle.view.proofs.Standing.{Standing}
use Rattle.handoff.specs.Retired.{Retired}
use Rattle.handoff.proofs.ArriveIs.{parts_ready}

-- WHAT A RETIREMENT REQUIRES of the parts
module _ (L : Lent) (X : Standing L) (c : ℕ) (may : MayRetire (limits_of L.product) (floor_in L) c) where
  -- a cart that is entered and is not moving is at a station
  pub is_home : (carts_in L.carts).place c ≡ at (station_of ((carts_in L.carts).place c))
  is_home = at_home ((floor_in L).place c) may.has_entered_lem may.not_moving

  pub retire_ready : (t : ℕ) → (carts_in L.carts).place c ≡ at t → HasStation L.stations t × HasRow L.carts c × (c < 64)
  retire_ready t here =
      let on_floor : t < (floor_in L).stations = rw here at (X.sized.places c) in
      let a = parts_ready L X t c on_floor may.cart in
      (a.0, a.1, a.4)

module _ {P : Product} (S S' C C' M W T O : List ℕ) (c t : ℕ) (X : Standing (lent P S C M W T O)) (here : (carts_in C).place c ≡ at t)
    (gone : Retired S S' C C' c t) where
  abbrev L : Lent
  L = lent P S C M W T O

  abbrev L' : Lent
  L' = lent P S' C' M W T O

  lengths : Lengths L'
  lengths =
      record {
        stations = gone.table ∙ X.lengths.stations;
        carts = gone.length ∙ X.lengths.carts;
        messages = X.lengths.messages;
        lines = X.lengths.lines;
        texts = X.lengths.texts;
        store = X.lengths.store;
      }

  -- a cart outside is local nowhere: it was local to t
  locals : (u : ℕ) → u < P.stations → (stations_in S').local u ≡ set_of 64 (λ d. local_to ((carts_in C').place d) u)
  locals u l =
      ap (λ (Z : Stations). Z.local u) gone.stations
      ∙ on_update (λ (x : ℕ). x ≡ set_of 64 (λ d. local_to (update (carts_in C).place c outside d) u)) (stations_in S).local t (without ((stations_in S).local t) c) u
      (λ q. rw q (ap (λ (x : ℕ). without x c) (X.laid.local t (rw q at l)) ∙ local_leaves (carts_in C).place c t outside refl))
      (λ q. X.laid.local u l ∙ local_stays (carts_in C).place c u outside (sym (ap (λ (p : Place). local_to p u) here ∙ ne_eqb t u (λ y. q (sym y)))))
      ∙ ap (λ (K : Carts). set_of 64 (λ d. local_to (K.place d) u)) (sym gone.carts)

  pub laid : Laid L'
  laid =
      laid_carts S C M W T O X.laid S' C'
      (λ d ld. ap (λ (f : ℕ → Bool). f d) gone.canonical ∙ on_update (λ (b : Bool). b ≡ true) (canonical_in C) c true d (λ q. refl) (λ q. X.laid.canonical d ld))
      locals
      (λ u m lu lm l. let was = X.laid.few u m lu lm l in
      (ap (λ (Y : Stations). Y.copy m u) gone.stations ∙ was.0, ap (λ (Y : Stations). Y.queue m u) gone.stations ∙ was.1))

  -- "the number becomes outside, leaves every group", and all else is as it was
  pub retire_is : floor_in L' ≡ (on_retire (floor_in L) c).floor
  unfolding on_retire
  retire_is =
      λ i. floor_of ((lengths_right_lem L' lengths ∙ sym (lengths_right_lem L X.lengths)) i) ((words_right_lem L' laid ∙ sym (words_right_lem L X.laid)) i)
      (gone.head i) (gone.stations i) (gone.carts i) (rooms_in M) (text_of T O (rooms_in M)) (lines_in W)

-- "It prints the cart, 0, p = 0, w = 0, q = 0"
pub retire_reports : (F : Floor) (c : ℕ) → (on_retire F c).report ≡ record { kind = 10; a = c; b = 0; p = 0; w = 0; q = 0; text = [] }
unfolding on_retire
retire_reports F c = refl
