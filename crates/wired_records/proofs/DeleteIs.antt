-- A DELETE OVER THE LENT PARTS IS THE WRITTEN DELETE: the floor that they then say is the floor of the written step.
use mathlib.Core.Path.{◌≡◌, refl, sym, ap, subst, ◌∙◌}
use mathlib.Core.Bool.{false, cond}
use mathlib.Core.List.{List, [], ◌∷◌}
use Prim.Native.Nat.{ℕ, ◌+◌, ◌*◌, ◌<◌}
use lib.Dec.{eqb}
use borrow.Author.Tests.{eqb-false, ne_eqb}
use Rattle.protocol.specs.Folds.{update}
use Rattle.protocol.specs.CartSets.{without}
use Rattle.protocol.specs.Floor.{Floor, Record, behead, limits_of, Product}
use Rattle.protocol.specs.Events.{Done, done, wire}
use Rattle.protocol.specs.Claims.{True}
use Rattle.protocol.specs.Handoff.{room_of}
use Rattle.protocol.specs.Wired.{handle, on_delete, on_wire, unbuffer}
use Rattle.protocol.specs.Step.{step}
use Rattle.protocol.proofs.Tests.{by_eq}
use Rattle.protocol.proofs.Accepted.{unlined}
use Rattle.stations.specs.View.{head_in, stations_in}
use Rattle.carts.specs.View.{carts_in}
use Rattle.messages.specs.View.{Rooms, rooms_in}
use Rattle.store.specs.Texts.{text_of}
use Rattle.store.specs.Layout.{layout_rule}
use Rattle.store.proofs.Changes.{texts_waiting, right_waiting}
use Rattle.lines.specs.declared.Record as word
use Rattle.lines.specs.Lines.{records_on}
use Rattle.lines.specs.Post.{Popped}
use Rattle.view.specs.Records.{kind_of, index_of, number_of, lines_in}
use Rattle.view.specs.View.{Lent, lent, floor_of, floor_in}
use Rattle.view.proofs.LinesView.{pop_view}
use Rattle.view.proofs.Lengths.{Lengths, lengths_right_lem}
use Rattle.view.proofs.Laid.{Laid, words_right_lem, laid_pop, laid_messages}
use Rattle.view.proofs.Standing.{Standing}
use Rattle.wired_records.specs.Handled.{Deleted}
use Rattle.wired_records.proofs.LaidAgain.{Fewer, rooms_again}
use Rattle.wired_records.proofs.Head.{from_below, to_below, wire_is, wire_steps, says_delete, delete_room}

module _ {P : Product} (S C M M' W W₁ T O : List ℕ) (X : Standing (lent P S C M W T O)) (i j : ℕ)
    (from : i < (head_in S).stations) (to : j < (head_in S).stations) (said : word.Record) (rest : List word.Record)
    (top : records_on W (i * 16 + j) ≡ said ∷ rest) (kind : kind_of said.0 ≡ 3) (popped : Popped W W₁ (i * 16 + j)) (deleted : Deleted M M' (index_of said.0) j) where
  abbrev L : Lent
  L = lent P S C M W T O

  abbrev L' : Lent
  L' = lent P S C M' W₁ T O

  abbrev m : ℕ
  m = index_of said.0

  abbrev n : ℕ
  n = number_of said.0

  abbrev F : Floor
  F = floor_in L

  -- the stations that are waited for then
  abbrev left : ℕ
  left = without ((rooms_in M).waiting m) j

  -- the written step, at the message's room
  delete_step : on_wire (limits_of L.product) F i j ≡ done (unbuffer (unlined F i j) m j) 3 3 n 0 0 0 []
  unfolding handle on_delete room_of
  delete_step =
      wire_is L X i j from to said rest top
      ∙ ap (λ (r : Record). handle (limits_of L.product) (unlined F i j) i j r) (says_delete L X i j from to said rest top kind)
      ∙ rw (delete_room L X i j from to said rest top kind).found refl

  stepped : step (limits_of L.product) F (wire i j) ≡ unbuffer (unlined F i j) m j
  stepped = wire_steps L X i j from to said rest top ∙ ap (λ (d : Done). d.floor) delete_step

  lines : lines_in W₁ ≡ behead i j (lines_in W)
  lines = pop_view W W₁ i j (from_below L X i j from to) (to_below L X i j from to) popped

  lengths : Lengths L'
  lengths =
      record {
        stations = X.lengths.stations;
        carts = X.lengths.carts;
        messages = deleted.length ∙ X.lengths.messages;
        lines = popped.words ∙ X.lengths.lines;
        texts = X.lengths.texts;
        store = X.lengths.store;
      }

  -- what is still held was held, under the same name
  fewer : (k : ℕ) → eqb ((rooms_in M').waiting k) 0 ≡ false → Fewer (rooms_in M) (rooms_in M') k
  fewer k h =
      record {
        held = by_eq k m (λ q. rw q (delete_room L X i j from to said rest top kind).held.some)
            (λ q. let z : eqb (update (rooms_in M).waiting m left k) 0 ≡ false = rw deleted.rooms at h in rw (ne_eqb k m q) at z);
        initiator = ap (λ (R : Rooms). R.initiator k) deleted.rooms;
        number = ap (λ (R : Rooms). R.number k) deleted.rooms;
      }

  -- the message was held: some station was waited for
  was_held : (rooms_in M).waiting m ≡ 0 → left ≡ 0
  was_held none = absurd (eqb-false ((rooms_in M).waiting m) 0 (delete_room L X i j from to said rest top kind).held.some none)

  right : True (layout_rule P.held (rooms_in M'))
  right =
      subst (λ (R : Rooms). True (layout_rule P.held R)) (sym deleted.rooms)
      (right_waiting P.held (rooms_in M) m left was_held X.laid.texts)

  -- "A deleted message's octets are free again"
  texts : text_of T O (rooms_in M') ≡ update (text_of T O (rooms_in M)) m (cond (eqb left 0) [] (text_of T O (rooms_in M) m))
  texts = ap (text_of T O) deleted.rooms ∙ texts_waiting T O (rooms_in M) m left was_held

  pub laid : Laid L'
  laid =
      let off = laid_pop S C M W T O X.laid W₁ i j (from_below L X i j from to) (to_below L X i j from to) popped in
      laid_messages S C M W₁ T O off M' right
      (rooms_again L X (wire i j) M' W₁
      (ap (λ (G : Floor). G.waiting) stepped ∙ sym (ap (λ (R : Rooms). R.waiting) deleted.rooms))
      (ap (λ (G : Floor). G.initiator) stepped ∙ sym (ap (λ (R : Rooms). R.initiator) deleted.rooms))
      (ap (λ (G : Floor). G.number) stepped ∙ sym (ap (λ (R : Rooms). R.number) deleted.rooms))
      (ap (λ (G : Floor). G.lines) stepped ∙ sym lines)
      fewer off.rooms)

  -- "the message leaves this station's buffer"
  pub delete_is : floor_in L' ≡ (on_wire (limits_of L.product) F i j).floor
  delete_is =
      (λ k. floor_of ((lengths_right_lem L' lengths ∙ sym (lengths_right_lem L X.lengths)) k) ((words_right_lem L' laid ∙ sym (words_right_lem L X.laid)) k)
      (head_in S) (stations_in S) (carts_in C) (deleted.rooms k) (texts k) (lines k))
      ∙ sym (ap (λ (d : Done). d.floor) delete_step)

  -- "3, 3, number, 0, 0", and no place
  pub delete_report : (on_wire (limits_of L.product) F i j).report ≡ record { kind = 3; a = 3; b = n; p = 0; w = 0; q = 0; text = [] }
  delete_report = ap (λ (d : Done). d.report) delete_step
