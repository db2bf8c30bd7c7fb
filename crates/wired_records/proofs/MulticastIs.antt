-- A MULTICAST OVER THE LENT PARTS IS THE WRITTEN MULTICAST: the floor that they then say is the floor of the written step.
use mathlib.Core.Path.{◌≡◌, refl, sym, ap, ◌∙◌, subst}
use mathlib.Core.Bool.{Bool, false, cond, ◌&&◌}
use mathlib.Core.List.{List, [], ◌∷◌}
use Prim.Native.Nat.{ℕ, suc, ◌+◌, ◌*◌, ◌^◌, ◌<◌}
use native.Mathlib.Numerals.{add-one}
use native.Mathlib.Omega.{arith}
use lib.Dec.{eqb}
use Rattle.protocol.specs.Folds.{count}
use Rattle.protocol.specs.CartSets.{minus, set_of}
use Rattle.protocol.specs.Floor.{Floor, Carts, local_to, Record, behead, limits_of, Product}
use Rattle.protocol.specs.Events.{Done, done}
use Rattle.protocol.specs.Order.{place_in}
use Rattle.protocol.specs.Handoff.{room_of}
use Rattle.protocol.specs.Wired.{handle, local_row, multicast_by_row, place_of_new, on_multicast, on_wire, buffer, raise_expected, passes_over, is_queued, is_struck}
use borrow.Author.Tests.{ne_eqb}
use Rattle.protocol.proofs.Accepted.{unlined}
use Rattle.stations.specs.View.{Stations, head_in, stations_in, with_expected, with_copy, with_queue}
use Rattle.carts.specs.View.{carts_in}
use Rattle.messages.specs.View.{rooms_in}
use Rattle.queue.specs.Rooms.{room_count}
use Rattle.queue.specs.Places.{place_among}
use Rattle.store.specs.Texts.{text_of}
use Rattle.lines.specs.declared.Record as word
use Rattle.lines.specs.Lines.{records_on}
use Rattle.lines.specs.Post.{Popped}
use Rattle.view.specs.Records.{kind_of, index_of, number_of, lines_in}
use Rattle.view.specs.View.{Lent, lent, floor_of, floor_in}
use Rattle.view.proofs.LinesView.{pop_view}
use Rattle.view.proofs.Lengths.{Lengths, lengths_right_lem}
use Rattle.view.proofs.Laid.{Laid, words_right_lem, laid_pop, laid_carts}
use Rattle.view.proofs.Standing.{Standing}
use Rattle.wired_records.specs.Handled.{Buffered}
use Rattle.wired_records.proofs.Head.{InRoom, from_below, to_below, wire_is, says_multicast, multicast_room}
use Rattle.wired_records.proofs.MulticastSets.{row_made, row_small, over_has, over_count, queue_same, copy_same}

module _ {P : Product} (S S' C C' M W W₁ T O : List ℕ) (X : Standing (lent P S C M W T O)) (i j : ℕ)
    (from : i < (head_in S).stations) (to : j < (head_in S).stations) (said : word.Record) (rest : List word.Record)
    (top : records_on W (i * 16 + j) ≡ said ∷ rest) (kind : kind_of said.0 ≡ 1) (popped : Popped W W₁ (i * 16 + j))
    (p q : ℕ) (by_table : Buffered S S' C C' M ((stations_in S).local j) (index_of said.0) (number_of said.0) i j p q) where
  abbrev L : Lent
  L = lent P S C M W T O

  abbrev L' : Lent
  L' = lent P S' C' M W₁ T O

  abbrev m : ℕ
  m = index_of said.0

  abbrev n : ℕ
  n = number_of said.0

  abbrev F : Floor
  F = floor_in L

  li : i < 16
  li = from_below L X i j from to

  lj : j < 16
  lj = to_below L X i j from to

  -- the row that was made first
  abbrev local : ℕ
  local = local_row F j

  small : local < 2 ^ F.carts
  small = row_small L X j to

  buffered : Buffered S S' C C' M local m n i j p q
  buffered = subst (λ (row : ℕ). Buffered S S' C C' M row m n i j p q) (row_made L X j to) by_table

  in_room_lem : InRoom (limits_of P) F i n m
  in_room_lem = multicast_room L X i j from to said rest top kind

  -- the written step, at the message's room
  multicast_step : on_wire (limits_of L.product) F i j ≡ done (raise_expected (buffer (unlined F i j) local m j i n) j i) 3 1 n (count (head_in S).carts (passes_over F local m i n)) 0 (place_of_new (limits_of P) F local m j i n) []
  unfolding handle on_multicast multicast_by_row room_of place_of_new place_in buffer
  multicast_step =
      wire_is L X i j from to said rest top
      ∙ ap (λ (r : Record). handle (limits_of L.product) (unlined F i j) i j r) (says_multicast L X i j from to said rest top kind)
      ∙ rw in_room_lem.found refl

  lengths : Lengths L'
  lengths =
      record {
        stations = buffered.stations.length ∙ X.lengths.stations;
        carts = buffered.carts.length ∙ X.lengths.carts;
        messages = X.lengths.messages;
        lines = popped.words ∙ X.lengths.lines;
        texts = X.lengths.texts;
        store = X.lengths.store;
      }

  pub laid : Laid L'
  laid =
      laid_carts S C M W₁ T O (laid_pop S C M W T O X.laid W₁ i j li lj popped) S' C'
      (λ c l. ap (λ (f : ℕ → Bool). f c) buffered.carts.canonical ∙ X.laid.canonical c l)
      (λ t l. ap (λ (Y : Stations). Y.local t) buffered.stations.stations ∙ X.laid.local t l
      ∙ ap (λ (K : Carts). set_of 64 (λ c. local_to (K.place c) t)) (sym buffered.carts.carts))
      (λ t k lt lk l. let other : eqb k m ≡ false = ne_eqb k m (λ q. let z = in_room_lem.held.slot in omega arith) in (
        ap (λ (Y : Stations). Y.copy k t) buffered.stations.stations ∙ rw other (X.laid.few t k lt lk l).0,
        ap (λ (Y : Stations). Y.queue k t) buffered.stations.stations ∙ rw other (X.laid.few t k lt lk l).1,
      ))

  -- the carts, with the next numbers that rise
  abbrev passed : Carts
  passed = record { place = (carts_in C).place; next = λ c u. cond (eqb u i && passes_over F local m i n c) (suc n) ((carts_in C).next c u); steady = (carts_in C).steady }

  carts : carts_in C' ≡ passed
  carts =
      buffered.carts.carts
      ∙ (λ k. record {
        place = (carts_in C).place;
        next = λ c u. cond (eqb u i && over_has L X local small m i n in_room_lem.held.slot buffered.over buffered.passed c k) (add-one n k) ((carts_in C).next c u);
        steady = (carts_in C).steady;
      })

  -- the station, with the copy, the queue's entry and one more expected
  stations : stations_in S'
      ≡ with_expected (with_queue (with_copy (stations_in S) m j (minus ((rooms_in M).named m) (set_of (head_in S).carts (is_struck F local m i n)))) m j (set_of (head_in S).carts (is_queued F local m i n)))
      j i (suc ((stations_in S).expected j i))
  stations =
      buffered.stations.stations
      ∙ (λ k. with_expected
      (with_queue (with_copy (stations_in S) m j (copy_same L X local small m i n in_room_lem.held.slot k)) m j (queue_same L X local small m i n in_room_lem.held.slot buffered.over buffered.passed k))
      j i (add-one ((stations_in S).expected j i) k))

  lines : lines_in W₁ ≡ behead i j (lines_in W)
  lines = pop_view W W₁ i j li lj popped

  -- "the message is buffered with its own copy of the set. For each local cart: .."; "the expected number rises by one"
  pub multicast_is : floor_in L' ≡ (on_wire (limits_of L.product) F i j).floor
  unfolding buffer
  multicast_is =
      (λ k. floor_of ((lengths_right_lem L' lengths ∙ sym (lengths_right_lem L X.lengths)) k) ((words_right_lem L' laid ∙ sym (words_right_lem L X.laid)) k)
      (buffered.stations.head k) (stations k) (carts k) (rooms_in M) (text_of T O (rooms_in M)) (lines k))
      ∙ sym (ap (λ (d : Done). d.floor) multicast_step)

  -- the messages' table has the product's rooms
  all_rooms : room_count M ≡ P.held
  all_rooms = let a = X.lengths.messages in omega arith

  -- "the entry's place, 1 for the head, as it stands right after the putting", 0 "if no cart was queued"
  pub multicast_place : q ≡ place_of_new (limits_of P) F local m j i n
  unfolding place_of_new place_in buffer place_among
  multicast_place =
      buffered.place
      ∙ (λ k. cond (eqb (queue_same L X local small m i n in_room_lem.held.slot buffered.over buffered.passed k) 0) 0
      (place_among (stations k) (rooms_in M) j m (all_rooms k)))

  -- "3, 1, number, p, 0", and q
  pub multicast_report : (on_wire (limits_of L.product) F i j).report ≡ record { kind = 3; a = 1; b = n; p = p; w = 0; q = q; text = [] }
  multicast_report =
      ap (λ (d : Done). d.report) multicast_step
      ∙ rw (buffered.count, over_count L X local small m i n in_room_lem.held.slot buffered.over buffered.passed, multicast_place) refl
