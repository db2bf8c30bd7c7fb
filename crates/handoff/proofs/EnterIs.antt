-- AN ENTER OVER THE LENT PARTS IS THE WRITTEN ENTER: the floor that they then say is the floor of the written step.
use mathlib.Core.Bool.{true}
use mathlib.Core.Path.{◌≡◌, refl, sym, ap, ◌∙◌}
use mathlib.Core.List.{List, []}
use Prim.Native.Nat.{ℕ, ◌<◌, ◌≤◌}
use native.Mathlib.Omega.{arith}
use Rattle.protocol.specs.Floor.{Floor, Place, Carts, outside, local_to, limits_of, Product, set_steady}
use Rattle.protocol.specs.Folds.{update}
use Rattle.protocol.specs.Handoff.{arrive, on_enter}
use Rattle.protocol.proofs.FloorLaws.{outside_is}
use Rattle.protocol.proofs.Accepted.{MayEnter}
use Rattle.protocol.specs.CartSets.{has}
use Rattle.stations.specs.View.{HasStation, head_in, stations_in, naming_in}
use Rattle.carts.specs.Words.{HasRow}
use Rattle.carts.specs.Records.{all_zero}
use Rattle.carts.specs.View.{carts_in}
use Rattle.carts.proofs.StepLaws.{zeros}
use Rattle.messages.specs.View.{rooms_in}
use Rattle.store.specs.Texts.{text_of}
use Rattle.view.specs.Records.{lines_in}
use Rattle.view.specs.View.{Lent, lent, lengths_in, words_in, floor_of, floor_in}
use Rattle.view.proofs.Lengths.{Lengths, lengths_right_lem}
use Rattle.view.proofs.Laid.{Laid, words_right_lem, laid_flags}
use Rattle.view.proofs.Standing.{Standing, few_stations, few_carts}
use Rattle.queue.specs.Rooms.{room_count, HasRooms}
use Rattle.handoff.specs.Arrived.{Arrived, Entered}
use Rattle.handoff.proofs.ArriveIs.{expected_fits, parts_ready, none_beyond, rooms_there, expects_none, arrived_is, passed_is, deepest_is, all_rooms, laid_there}

-- WHAT THE ENTER REQUIRES of the parts
module _ (L : Lent) (X : Standing L) (t c : ℕ) (may : MayEnter (floor_in L) t c) where
  pub is_station : t < 16
  is_station = let a = may.station in let b = few_stations L X in omega arith

  pub is_cart : c < 64
  is_cart = let a = may.cart in let b = few_carts L X in omega arith

  pub enter_ready : HasStation L.stations t × HasRow L.carts c × HasRooms L.messages × (t < 16) × (c < 64)
  enter_ready = parts_ready L X t c may.station may.cart

  pub enter_rooms : (m : ℕ) → has (naming_in (stations_in L.stations) t c) m ≡ true → m < room_count L.messages
  enter_rooms = rooms_there L X t c may.station

  pub enter_fits : (s : ℕ) → s < 16 → (stations_in L.stations).expected t s ≤ 4294967295
  enter_fits = expected_fits L X t may.station

module _ {P : Product} (S S' C C' M W T O : List ℕ) (t c p q : ℕ) (X : Standing (lent P S C M W T O)) (may : MayEnter (floor_in (lent P S C M W T O)) t c)
    (entered : Entered S S' C C' M t c p q) where
  abbrev L : Lent
  L = lent P S C M W T O

  abbrev L' : Lent
  L' = lent P S' C' M W T O

  abbrev F : Floor
  F = floor_in L

  -- the carts' words once the cart is there, and what the arrival left
  abbrev A : List ℕ
  A = entered.there

  abbrev there : Arrived S S' C A M t c all_zero p q
  there = entered.arrived

  lc : c < 64
  lc = is_cart L X t c may

  lt : t < 16
  lt = is_station L X t c may

  out : F.place c ≡ outside
  out = outside_is (F.place c) may.is_outside

  lt' : t < P.stations
  lt' = let a = may.station in let b = X.sized.counts.stations in omega arith

  lengths : Lengths L'
  lengths =
      record {
        stations = there.docked.table ∙ X.lengths.stations;
        carts = entered.steady.length ∙ there.length ∙ X.lengths.carts;
        messages = X.lengths.messages;
        lines = X.lengths.lines;
        texts = X.lengths.texts;
        store = X.lengths.store;
      }

  pub laid : Laid L'
  laid =
      laid_flags S' A M W T O (laid_there S S' C A M W T O X.laid t c lt' lc all_zero p q (λ u. ap (λ (q : Place). local_to q u) out) there)
      C' c entered.steady.canonical (ap (λ (K : Carts). K.place) entered.steady.carts)

  -- "Enter (station, cart): as a register with all next numbers 0, handled at once"
  pub enter_is : floor_in L' ≡ (on_enter (limits_of L.product) F t c).floor
  unfolding on_enter
  enter_is =
      (λ i. floor_of ((lengths_right_lem L' lengths ∙ sym (lengths_right_lem L X.lengths)) i) ((words_right_lem L' laid ∙ sym (words_right_lem L X.laid)) i)
      (head_in S') (stations_in S') (entered.steady.carts i) (rooms_in M) (text_of T O (rooms_in M)) (lines_in W))
      ∙ (λ i. set_steady (arrived i) (update (there.carts i).steady c true))
    where
      arrived : floor_of (lengths_in L) (words_in L) (head_in S') (stations_in S') (carts_in A) (rooms_in M) (text_of T O (rooms_in M)) (lines_in W) ≡ arrive (limits_of P) F t c (λ s. 0)
      arrived =
          arrived_is (limits_of P) S S' C A M T O (lengths_in L) (words_in L) (lines_in W) t c all_zero (λ s. 0) p q
          zeros (λ s l. refl) (P.held_fit, none_beyond L X t may.station) (few_stations L X) (expects_none L X t may.station) there

  pub enter_reports : (on_enter (limits_of L.product) F t c).report ≡ record { kind = 1; a = t; b = c; p = p; w = 0; q = q; text = [] }
  unfolding on_enter
  enter_reports =
      λ i. record {
        kind = 1;
        a = t;
        b = c;
        p = sym (passed_is (limits_of P) S S' C A M T O (lengths_in L) (words_in L) (lines_in W) t c all_zero (λ s. 0) p q
            zeros (λ s l. refl) (P.held_fit, none_beyond L X t may.station) (few_stations L X) (expects_none L X t may.station) there) i;
        w = 0;
        q = sym (deepest_is (limits_of P) S S' C A M T O (lengths_in L) (words_in L) (lines_in W) t c all_zero (λ s. 0) p q
            zeros (λ s l. refl) (P.held_fit, none_beyond L X t may.station) (few_stations L X) (expects_none L X t may.station) there (all_rooms L X)) i;
        text = [];
      }
