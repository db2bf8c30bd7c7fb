-- A SEND OVER THE LENT PARTS IS THE WRITTEN SEND: the floor that they then say is the floor of the written step.
use mathlib.Core.Path.{◌≡◌, refl, sym, ap, ◌∙◌}
use mathlib.Core.Bool.{true, false, ◌&&◌, not}
use mathlib.Core.Option.{some}
use mathlib.Core.List.{List, [], ◌∷◌}
use Prim.Native.Nat.{ℕ, ◌+◌, ◌*◌, ◌≤◌, ◌<◌}
use native.Mathlib.Omega.{arith}
use lib.Dec.{eqb}
use lib.ListN.{length}
use borrow.Author.Tests.{ne_eqb, not-true}
use Rattle.protocol.specs.CartSets.{set_of}
use Rattle.protocol.specs.Floor.{Floor, Product, limits_of, Record, multicast, put, to_every}
use Rattle.protocol.specs.Events.{done}
use Rattle.protocol.specs.Wired.{free_room, with_message, on_send}
use Rattle.protocol.proofs.Tests.{by_test, by_eq, clash, and_left, and_right, and_intro, eqb_self}
use Rattle.protocol.proofs.Accepted.{MaySend}
use Rattle.stations.specs.View.{Stations, head_in, stations_in}
use Rattle.carts.specs.View.{carts_in}
use Rattle.messages.specs.View.{Rooms, rooms_in}
use Rattle.messages.specs.View as messages
use Rattle.lines.specs.declared.Record as word
use Rattle.lines.specs.Lines.{records_on, registers_in}
use Rattle.view.specs.Records.{kind_of, index_of, number_of, words_of, lines_in, is_in, room_right}
use Rattle.view.specs.View.{Lent, lent, every_word, floor_of, floor_in}
use Rattle.view.proofs.Lengths.{Lengths, lengths_right_lem}
use Rattle.view.proofs.Laid.{Laid, words_right_lem, laid_stations, laid_texts, laid_messages}
use Rattle.view.proofs.RecordWords.{multicast_is, multicast_right}
use Rattle.view.proofs.Standing.{Standing, few_stations}
use Rattle.wired_lines.proofs.EveryView.{every_view, laid_every}
use Rattle.wired_send.specs.Sent.{Announced}
use Rattle.wired_send.proofs.Placed.{Placed, waits_for_all}

-- THE ROOMS WITH A NEW MESSAGE in a room that was free, wherever the texts lie in the store
module _ (R : Rooms) (offset : ℕ → ℕ) (m s number set waiting octets place : ℕ) (free : eqb (R.waiting m) 0 ≡ true) where
  abbrev filled : Rooms
  filled = messages.with_message (messages.with_offsets R offset) m s number set waiting octets place

  -- the others are in their rooms as before
  still_in : (i n k : ℕ) → is_in R i n k ≡ true → is_in filled i n k ≡ true
  still_in i n k e =
      by_eq k m
      (λ q. clash (eqb (R.waiting k) 0) (ap (λ (x : ℕ). eqb (R.waiting x) 0) q ∙ free) (not-true (eqb (R.waiting k) 0) (and_left (not (eqb (R.waiting k) 0)) (eqb (R.initiator k) i && eqb (R.number k) n) e)))
      (λ q. rw (ne_eqb k m q) e)

  -- so the records on the lines say their rooms right
  still_right : (i j : ℕ) (r : word.Record) → room_right R i j r ≡ true → room_right filled i j r ≡ true
  unfolding room_right
  still_right i j r h =
      by_test (eqb (kind_of r.0) 1) (λ e. rw e (still_in i (number_of r.0) (index_of r.0) (rw e at h)))
      (λ e₁. by_test (eqb (kind_of r.0) 2) (λ e. rw (e₁, e) (still_in j (number_of r.0) (index_of r.0) (rw (e₁, e) at h)))
      (λ e₂. by_test (eqb (kind_of r.0) 3) (λ e. rw (e₁, e₂, e) (still_in i (number_of r.0) (index_of r.0) (rw (e₁, e₂, e) at h)))
      (λ e₃. rw (e₁, e₂, e₃) (rw (e₁, e₂, e₃) at h))))

  all_right : (i j : ℕ) (l : List word.Record) → every_word (room_right R i j) l ≡ true → every_word (room_right filled i j) l ≡ true
  all_right i j [] h = refl
  all_right i j (r ∷ l) h =
      and_intro (room_right filled i j r) (every_word (room_right filled i j) l)
      (still_right i j r (and_left (room_right R i j r) (every_word (room_right R i j) l) h))
      (all_right i j l (and_right (room_right R i j r) (every_word (room_right R i j) l) h))

  -- the new message is in room m
  new_in : eqb waiting 0 ≡ false → is_in filled s number m ≡ true
  new_in e = rw (eqb_self m, e, eqb_self s, eqb_self number) refl

module _ {P : Product} (S S' C M M' W W' T T' O O' : List ℕ) (m s set : ℕ) (text : List ℕ) (X : Standing (lent P S C M W T O))
    (may : MaySend (limits_of P) (floor_in (lent P S C M W T O)) s set text m)
    (placed : Placed P.held M M' T T' O O' m s (head_in S).stations ((stations_in S).sent s) set text)
    (sent : Announced S S' W W' m s (head_in S).stations ((stations_in S).sent s)) where
  abbrev L : Lent
  L = lent P S C M W T O

  abbrev L' : Lent
  L' = lent P S' C M' W' T' O'

  abbrev n : ℕ
  n = (head_in S).stations

  abbrev number : ℕ
  number = (stations_in S).sent s

  abbrev R' : Rooms
  R' = messages.with_message (messages.with_offsets (rooms_in M) placed.offset) m s number set (set_of n (λ t. true)) (length text) placed.place

  few : n ≤ 16
  few = few_stations L X

  from : s < 16
  from = let a = few in let b = may.names.station in omega arith

  lengths : Lengths L'
  lengths =
      record {
        stations = sent.words ∙ X.lengths.stations;
        carts = X.lengths.carts;
        messages = placed.words ∙ X.lengths.messages;
        lines = sent.lines.words ∙ X.lengths.lines;
        texts = placed.octets ∙ X.lengths.texts;
        store = placed.whole ∙ X.lengths.store;
      }

  kept_right : (i j : ℕ) → i < 16 → j < 16 → every_word (room_right (rooms_in M') i j) (records_on W (i * 16 + j)) ≡ true
  kept_right i j li lj =
      rw placed.rooms
      (all_right (rooms_in M) placed.offset m s number set (set_of n (λ t. true)) (length text) placed.place may.takes.free i j (records_on W (i * 16 + j)) (X.laid.rooms i j li lj))

  new_right : (j : ℕ) → room_right (rooms_in M') s j (words_of 1 m number 0) ≡ true
  new_right j =
      let lm = may.takes.room in
      let lh = P.held_fit in
      rw placed.rooms
      (multicast_right R' s j m number (omega arith)
      (new_in (rooms_in M) placed.offset m s number set (set_of n (λ t. true)) (length text) placed.place may.takes.free (waits_for_all n s may.names.station)))

  few' : (t k : ℕ) → t < P.stations → k < 32 → P.held ≤ k → ((stations_in S').copy k t ≡ 0) × ((stations_in S').queue k t ≡ 0)
  few' t k lt lk l =
      let was = X.laid.few t k lt lk l in
      let other : eqb k m ≡ false = ne_eqb k m (λ q. let z = may.takes.room in omega arith) in
      (ap (λ (Y : Stations). Y.copy k t) sent.stations ∙ rw other was.0, ap (λ (Y : Stations). Y.queue k t) sent.stations ∙ rw other was.1)

  pub laid : Laid L'
  laid =
      laid_every S' C M' W T' O' W'
      (laid_messages S' C M W T' O'
      (laid_texts S' C M W T O
      (laid_stations S C M W T O X.laid S' (λ t l. ap (λ (Y : Stations). Y.local t) sent.stations) few')
      T' O')
      M' placed.right kept_right)
      s n (words_of 1 m number 0) from few sent.lines (λ j l. new_right j)

  lines : lines_in W' ≡ put (to_every n s) (multicast number) (lines_in W)
  lines =
      let lm = may.takes.room in
      let lh = P.held_fit in
      every_view W W' s n (words_of 1 m number 0) from few sent.lines
      ∙ ap (λ (r : Record). put (to_every n s) r (lines_in W)) (multicast_is (registers_in W) m number (omega arith))

  -- "the message takes the station's number; a multicast goes on the line to every station"
  pub message_is : floor_in L' ≡ with_message (floor_in L) m s set text
  unfolding with_message
  message_is =
      λ i. floor_of ((lengths_right_lem L' lengths ∙ sym (lengths_right_lem L X.lengths)) i) ((words_right_lem L' laid ∙ sym (words_right_lem L X.laid)) i)
      (sent.top i) (sent.stations i) (carts_in C) (placed.rooms i) (placed.texts i) (lines i)

  -- m is the first free room: the whole step, and its report, of whatever kind: no cart is passed over, and a record goes to each station
  pub send_done : free_room (limits_of P) (floor_in L) ≡ some m → (kind : ℕ)
      → done (floor_in L') kind s number 0 n 0 [] ≡ on_send (limits_of P) (floor_in L) kind s set text
  unfolding on_send
  send_done found kind = rw found (ap (λ (G : Floor). done G kind s number 0 n 0 []) message_is)
