-- AN ACK LIST OVER THE LENT PARTS IS THE WRITTEN ACK LIST: the floor that they then say is the floor of the written step.
use mathlib.Core.Path.{◌≡◌, refl, sym, ap, ◌∙◌}
use mathlib.Core.Bool.{true, cond}
use mathlib.Core.List.{List, [], ◌∷◌}
use Prim.Native.Nat.{ℕ, ◌+◌, ◌*◌, ◌≤◌, ◌<◌}
use native.Mathlib.Omega.{arith}
use lib.Dec.{eqb}
use lib.ListN.{length}
use borrow.Author.Tests.{eq-eqb, ne_eqb}
use Rattle.protocol.specs.CartSets.{union}
use Rattle.protocol.specs.Floor.{Floor, Record, delete, on_lines, behead, put, push, to_every, limits_of, Product}
use Rattle.protocol.specs.Events.{Done, done, wire}
use Rattle.protocol.specs.Handoff.{room_of}
use Rattle.protocol.specs.Wired.{add_acks, handle, on_ack_list, on_wire}
use Rattle.protocol.proofs.Tests.{by_eq}
use Rattle.protocol.proofs.Accepted.{unlined}
use Rattle.stations.specs.View.{head_in, stations_in}
use Rattle.carts.specs.View.{carts_in}
use Rattle.messages.specs.View.{rooms_in}
use Rattle.store.specs.Texts.{text_of}
use Rattle.store.proofs.Changes.{texts_acked}
use Rattle.lines.specs.declared.Record as word
use Rattle.lines.specs.Lines.{records_on, used, registers_in}
use Rattle.lines.specs.Words.{capacity}
use Rattle.lines.specs.Post.{Popped}
use Rattle.view.specs.Records.{kind_of, index_of, number_of, words_of, lines_in, room_right}
use Rattle.view.specs.View.{Lent, lent, floor_of, floor_in}
use Rattle.view.proofs.LinesView.{pop_view}
use Rattle.view.proofs.Lengths.{Lengths, lengths_right_lem}
use Rattle.view.proofs.Laid.{Laid, words_right_lem, laid_pop, laid_messages}
use Rattle.view.proofs.RecordWords.{delete_is, delete_right_lem}
use Rattle.view.proofs.Standing.{Standing, few_stations}
use Rattle.wired_lines.specs.ToEvery.{PushedToEvery}
use Rattle.wired_lines.proofs.EveryView.{every_view, laid_every, every_counts}
use Rattle.wired_records.specs.Handled.{Acknowledged}
use Rattle.wired_records.proofs.LaidAgain.{room_is}
use Rattle.wired_records.proofs.Head.{InRoom, from_below, to_below, wire_is, wire_steps, says_ack_list, ack_list_room}
use Rattle.wired_records.proofs.RoomFor.{room_popped}

module _ {P : Product} (S C M W W₁ T O : List ℕ) (X : Standing (lent P S C M W T O)) (i j : ℕ)
    (from : i < (head_in S).stations) (to : j < (head_in S).stations) (said : word.Record) (rest : List word.Record)
    (top : records_on W (i * 16 + j) ≡ said ∷ rest) (kind : kind_of said.0 ≡ 2) (popped : Popped W W₁ (i * 16 + j)) where
  abbrev L : Lent
  L = lent P S C M W T O

  abbrev m : ℕ
  m = index_of said.0

  abbrev n : ℕ
  n = number_of said.0

  abbrev F : Floor
  F = floor_in L

  abbrev known : ℕ
  known = union ((rooms_in M).acked m) said.1

  -- the floor with the carts added
  abbrev added : Floor
  added = add_acks (unlined F i j) m said.1

  li : i < 16
  li = from_below L X i j from to

  lj : j < 16
  lj = to_below L X i j from to

  in_room_lem : InRoom (limits_of P) F j n m
  in_room_lem = ack_list_room L X i j from to said rest top kind

  -- the written step, at the message's room
  ack_step : on_wire (limits_of L.product) F i j ≡ cond (eqb known ((rooms_in M).named m)) (done (push added (to_every (head_in S).stations j) (delete n)) 3 2 n 0 (head_in S).stations 0 []) (done added 3 2 n 0 0 0 [])
  unfolding handle on_ack_list room_of
  ack_step =
      wire_is L X i j from to said rest top
      ∙ ap (λ (r : Record). handle (limits_of L.product) (unlined F i j) i j r) (says_ack_list L X i j from to said rest top kind)
      ∙ rw in_room_lem.found refl

  whole_step : known ≡ (rooms_in M).named m → on_wire (limits_of L.product) F i j ≡ done (push added (to_every (head_in S).stations j) (delete n)) 3 2 n 0 (head_in S).stations 0 []
  whole_step e = ack_step ∙ rw (eq-eqb known ((rooms_in M).named m) e) refl

  part_step : (known ≡ (rooms_in M).named m → ⊥) → on_wire (limits_of L.product) F i j ≡ done added 3 2 n 0 0 0 []
  part_step e = ack_step ∙ rw (ne_eqb known ((rooms_in M).named m) e) refl

  popped_lines : lines_in W₁ ≡ behead i j (lines_in W)
  popped_lines = pop_view W W₁ i j li lj popped

  -- there is room for the deletes
  pub room_for_deletes : known ≡ (rooms_in M).named m → used W₁ + (head_in S).stations ≤ capacity W₁
  room_for_deletes e =
      let stepped = wire_steps L X i j from to said rest top ∙ ap (λ (d : Done). d.floor) (whole_step e) in
      let a = room_popped L X W₁ i j li lj popped (wire i j) (to_every (head_in S).stations j) (delete n) (ap (λ (G : Floor). G.stations) stepped) (ap (λ (G : Floor). G.lines) stepped) in
      let b = every_counts (head_in S).stations j to in
      omega arith

  module _ (M' W₂ : List ℕ) (w : ℕ) (acknowledged : Acknowledged M M' W₁ W₂ m n said.1 j (head_in S).stations w) where
    abbrev L' : Lent
    L' = lent P S C M' W₂ T O

    -- the words lie right once the carts are added
    laid_added : Laid (lent P S C M' W₁ T O)
    unfolding room_right
    laid_added =
        let off = laid_pop S C M W T O X.laid W₁ i j li lj popped in
        laid_messages S C M W₁ T O off M' (rw acknowledged.rooms X.laid.texts)
        (λ a b la lb. rw acknowledged.rooms (off.rooms a b la lb))

    -- the room that the delete says
    right_room : (b : ℕ) → room_right (rooms_in M') j b (words_of 3 m n 0) ≡ true
    right_room b =
        let below = in_room_lem.below in
        delete_right_lem (rooms_in M') j b m n (omega arith) (rw acknowledged.rooms (room_is (rooms_in M) j n m in_room_lem.held.some in_room_lem.initiator in_room_lem.number))

    few : (head_in S).stations ≤ 16
    few = few_stations L X

    pub laid : Laid L'
    laid =
        by_eq known ((rooms_in M).named m)
        (λ e. laid_every S C M' W₁ T O W₂ laid_added j (head_in S).stations (words_of 3 m n 0) lj few (acknowledged.whole e).1 (λ b l. right_room b))
        (λ e. rw (acknowledged.part e).1 laid_added)

    texts : text_of T O (rooms_in M') ≡ text_of T O (rooms_in M)
    texts = ap (text_of T O) acknowledged.rooms ∙ texts_acked T O (rooms_in M) m known

    -- the floor, when these are its lines
    with_lines : (lines : ℕ → ℕ → List Record) → lines_in W₂ ≡ lines → length W₂ ≡ length W → floor_in L' ≡ on_lines added lines
    with_lines lines same size =
        λ k. floor_of ((lengths_right_lem L' lengths ∙ sym (lengths_right_lem L X.lengths)) k) ((words_right_lem L' laid ∙ sym (words_right_lem L X.laid)) k)
        (head_in S) (stations_in S) (carts_in C) (acknowledged.rooms k) (texts k) (same k)
      where
        lengths : Lengths L'
        lengths =
            record {
              stations = X.lengths.stations;
              carts = X.lengths.carts;
              messages = acknowledged.length ∙ X.lengths.messages;
              lines = size ∙ X.lengths.lines;
              texts = X.lengths.texts;
              store = X.lengths.store;
            }

    -- the deletes on the lines
    deletes : PushedToEvery W₁ W₂ j (head_in S).stations (words_of 3 m n 0)
        → lines_in W₂ ≡ put (to_every (head_in S).stations j) (delete n) (behead i j (lines_in W))
    deletes p =
        let below = in_room_lem.below in
        every_view W₁ W₂ j (head_in S).stations (words_of 3 m n 0) lj few p
        ∙ (λ k. put (to_every (head_in S).stations j) (delete_is (registers_in W₁) m n (omega arith) k) (popped_lines k))

    -- "the initiator adds its carts. When they make up the whole set, a delete goes to every station"
    pub ack_list_is : floor_in L' ≡ (on_wire (limits_of L.product) F i j).floor
    ack_list_is =
        by_eq known ((rooms_in M).named m)
        (λ e. let p = (acknowledged.whole e).1 in
        with_lines (put (to_every (head_in S).stations j) (delete n) (behead i j (lines_in W))) (deletes p) (p.words ∙ popped.words)
        ∙ sym (ap (λ (d : Done). d.floor) (whole_step e)))
        (λ e. let q = (acknowledged.part e).1 in
        with_lines (behead i j (lines_in W)) (ap lines_in q ∙ popped_lines) (ap (λ (l : List ℕ). length l) q ∙ popped.words)
        ∙ sym (ap (λ (d : Done). d.floor) (part_step e)))

    -- "3, 2, number, 0, w", and no place
    pub ack_list_report : (on_wire (limits_of L.product) F i j).report ≡ record { kind = 3; a = 2; b = n; p = 0; w = w; q = 0; text = [] }
    ack_list_report =
        by_eq known ((rooms_in M).named m)
        (λ e. rw (acknowledged.whole e).0 (ap (λ (d : Done). d.report) (whole_step e)))
        (λ e. rw (acknowledged.part e).0 (ap (λ (d : Done). d.report) (part_step e)))
