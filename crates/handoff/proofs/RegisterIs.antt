-- A REGISTER OVER THE LENT PARTS IS THE WRITTEN REGISTER: the floor that they then say is the floor of the written step.
use mathlib.Core.Path.{◌≡◌, refl, sym, ap, ◌∙◌}
use mathlib.Core.Bool.{true, false}
use mathlib.Core.List.{List, [], ◌∷◌}
use Prim.Native.Nat.{ℕ, ◌+◌, ◌*◌, ◌<◌, ◌≤◌}
use native.Mathlib.Omega.{arith}
use lib.ListN.{get_or}
use Rattle.protocol.specs.Folds.{list_of}
use Rattle.protocol.specs.Floor.{Floor, Place, travelling, Record, register, behead, local_to, limits_of, Product}
use Rattle.protocol.specs.Events.{Done}
use Rattle.protocol.specs.Handoff.{entry_of, row_of, on_register}
use Rattle.protocol.specs.Wired.{handle, on_wire}
use Rattle.protocol.specs.Form.{registering, handoffs, handoff_of}
use Rattle.protocol.proofs.Tests.{eqb_self, list_of_past}
use Rattle.protocol.proofs.Accepted.{MayWire, unlined}
use Rattle.protocol.proofs.HandoffSteps.{registering_is}
use Rattle.protocol.specs.CartSets.{has}
use Rattle.stations.specs.View.{HasStation, head_in, stations_in, naming_in}
use Rattle.carts.specs.Words.{HasRow}
use Rattle.carts.specs.View.{carts_in}
use Rattle.messages.specs.View.{rooms_in}
use Rattle.store.specs.Texts.{text_of}
use Rattle.lines.specs.Post.{Popped}
use Rattle.view.specs.Records.{lines_in}
use Rattle.view.specs.View.{Lent, lent, lengths_in, words_in, floor_of, floor_in}
use Rattle.view.proofs.LinesView.{pop_view}
use Rattle.view.proofs.Lengths.{Lengths, lengths_right_lem}
use Rattle.view.proofs.Laid.{Laid, words_right_lem, laid_pop}
use Rattle.view.proofs.Standing.{Standing, few_stations, few_carts}
use Rattle.queue.specs.Rooms.{room_count, HasRooms}
use Rattle.handoff.specs.Arrived.{Arrived}
use Rattle.handoff.proofs.ArriveIs.{expected_fits, parts_ready, none_beyond, rooms_there, expects_none, arrived_is, passed_is, deepest_is, all_rooms, laid_there}

-- WHAT IS KNOWN where the register of cart c is the head of the line from i to t
module _ (L : Lent) (X : Standing L) (c i t : ℕ) (row : List ℕ) (rest : List Record) (may : MayWire (floor_in L) i t (register c row) rest) where
  abbrev F : Floor
  F = floor_in L

  -- the cart travels from i to t, and its row is that of its next numbers
  said : (F.place c ≡ travelling i t) × ((row ≡ row_of (limits_of L.product) (F.next c)) × (handoffs c rest ≡ []))
  said =
      let z : registering row ∷ handoffs c rest ≡ handoff_of (F.place c) i t (row_of (limits_of L.product) (F.next c)) = rw (may.line, eqb_self c) at (X.facts.handoffs_right c i t) in
      registering_is (F.place c) i t (row_of (limits_of L.product) (F.next c)) row (handoffs c rest) z

  pub is_travelling_lem : F.place c ≡ travelling i t
  is_travelling_lem = said.0

  pub its_row : row ≡ list_of 16 (F.next c)
  its_row = said.1.0

  pub is_cart : c < 64
  is_cart = let a = X.facts.real c (rw is_travelling_lem) in let b = few_carts L X in omega arith

  pub is_from : i < 16
  is_from = let a = may.from in let b = few_stations L X in omega arith

  pub is_station : t < 16
  is_station = let a = may.to in let b = few_stations L X in omega arith

  -- WHAT THE REGISTER REQUIRES of the parts
  pub register_ready : HasStation L.stations t × HasRow L.carts c × HasRooms L.messages × (t < 16) × (c < 64)
  register_ready = parts_ready L X t c may.to (X.facts.real c (rw is_travelling_lem))

  pub register_rooms : (m : ℕ) → has (naming_in (stations_in L.stations) t c) m ≡ true → m < room_count L.messages
  register_rooms = rooms_there L X t c may.to

  pub register_fits : (s : ℕ) → s < 16 → (stations_in L.stations).expected t s ≤ 4294967295
  register_fits = expected_fits L X t may.to

module _ {P : Product} (S S' C C' M W W₁ T O : List ℕ) (c i t p q : ℕ) (row : List ℕ) (rest : List Record) (X : Standing (lent P S C M W T O))
    (may : MayWire (floor_in (lent P S C M W T O)) i t (register c row) rest) (pop : Popped W W₁ (i * 16 + t))
    (there : Arrived S S' C C' M t c row p q) where
  abbrev L : Lent
  L = lent P S C M W T O

  abbrev L' : Lent
  L' = lent P S' C' M W₁ T O

  lc : c < 64
  lc = is_cart L X c i t row rest may

  li : i < 16
  li = is_from L X c i t row rest may

  lt : t < 16
  lt = is_station L X c i t row rest may

  lt' : t < P.stations
  lt' = let a = may.to in let b = X.sized.counts.stations in omega arith

  lengths : Lengths L'
  lengths =
      record {
        stations = there.docked.table ∙ X.lengths.stations;
        carts = there.length ∙ X.lengths.carts;
        messages = X.lengths.messages;
        lines = pop.words ∙ X.lengths.lines;
        texts = X.lengths.texts;
        store = X.lengths.store;
      }

  popped : Laid (lent P S C M W₁ T O)
  popped = laid_pop S C M W T O X.laid W₁ i t li lt pop

  -- a travelling cart is local nowhere
  nowhere : (u : ℕ) → local_to ((carts_in C).place c) u ≡ false
  nowhere u = ap (λ (q : Place). local_to q u) (is_travelling_lem L X c i t row rest may)

  pub laid : Laid L'
  laid = laid_there S S' C C' M W₁ T O popped t c lt' lc row p q nowhere there

  lines : lines_in W₁ ≡ behead i t (lines_in W)
  lines = pop_view W W₁ i t li lt pop

  -- its row is that of the cart, which has sixteen numbers
  no_more : (s : ℕ) → 16 ≤ s → entry_of row s ≡ 0
  no_more s l = ap (λ (l : List ℕ). get_or l s 0) (its_row L X c i t row rest may) ∙ list_of_past 16 ((carts_in C).next c) 0 s l

  -- the head of the line is handled
  handled : on_wire (limits_of L.product) (floor_in L) i t ≡ on_register (limits_of L.product) (unlined (floor_in L) i t) t c row
  unfolding on_wire handle
  handled = rw may.line

  arrived : floor_in L' ≡ (on_register (limits_of L.product) (unlined (floor_in L) i t) t c row).floor
  unfolding on_register
  arrived =
      (λ k. floor_of ((lengths_right_lem L' lengths ∙ sym (lengths_right_lem L X.lengths)) k) ((words_right_lem L' laid ∙ sym (words_right_lem L X.laid)) k)
      (head_in S') (stations_in S') (carts_in C') (rooms_in M) (text_of T O (rooms_in M)) (lines k))
      ∙ arrived_is (limits_of P) S S' C C' M T O (lengths_in L) (words_in L) (behead i t (lines_in W)) t c row (entry_of row) p q
      (λ s. refl) no_more (P.held_fit, none_beyond L X t may.to) (few_stations L X) (expects_none L X t may.to) there

  -- "Register": the cart is struck, catches up, and is at this station
  pub register_is : floor_in L' ≡ (on_wire (limits_of L.product) (floor_in L) i t).floor
  register_is = arrived ∙ ap (λ (d : Done). d.floor) (sym handled)

  reported : (on_register (limits_of L.product) (unlined (floor_in L) i t) t c row).report ≡ record { kind = 3; a = 5; b = c; p = p; w = 0; q = q; text = [] }
  unfolding on_register
  reported =
      λ k. record {
        kind = 3;
        a = 5;
        b = c;
        p = sym (passed_is (limits_of P) S S' C C' M T O (lengths_in L) (words_in L) (behead i t (lines_in W)) t c row (entry_of row) p q
            (λ s. refl) no_more (P.held_fit, none_beyond L X t may.to) (few_stations L X) (expects_none L X t may.to) there) k;
        w = 0;
        q = sym (deepest_is (limits_of P) S S' C C' M T O (lengths_in L) (words_in L) (behead i t (lines_in W)) t c row (entry_of row) p q
            (λ s. refl) no_more (P.held_fit, none_beyond L X t may.to) (few_stations L X) (expects_none L X t may.to) there (all_rooms L X)) k;
        text = [];
      }

  pub register_reports : (on_wire (limits_of L.product) (floor_in L) i t).report ≡ record { kind = 3; a = 5; b = c; p = p; w = 0; q = q; text = [] }
  register_reports = ap (λ (d : Done). d.report) handled ∙ reported
