-- A DEREGISTER OVER THE LENT PARTS IS THE WRITTEN DEREGISTER: the floor that they then say is the floor of the written step.
use mathlib.Core.Path.{◌≡◌, refl, sym, ap, ap₂, ◌∙◌, subst}
use mathlib.Core.Bool.{Bool, true, false, cond, not, ◌&&◌}
use mathlib.Core.List.{List, [], ◌∷◌}
use Prim.Native.Nat.{ℕ, ◌+◌, ◌-◌, ◌*◌, ◌<◌, ◌≤◌}
use native.Mathlib.Omega.{arith}
use lib.Dec.{eqb, ltb}
use lib.ListN.{length}
use borrow.Author.Tests.{eqb-false, le-ltb, lt-leb, lt-ltb, ne_eqb}
use Rattle.protocol.specs.Folds.{list_of, update}
use Rattle.protocol.specs.CartSets.{has, minus, without, set_of}
use Rattle.protocol.specs.Floor.{Limits, Floor, Place, Carts, leaving, travelling, Record, deregister, register, put, push, between, behead, is_buffered, is_local, local_to, limits_of, on_the_lines, Product}
use Rattle.protocol.specs.Events.{Done, wire}
use Rattle.protocol.specs.Handoff.{row_of}
use Rattle.protocol.specs.Deregister.{in_order, is_complete, leave, on_deregister}
use Rattle.protocol.specs.Wired.{handle, on_wire}
use Rattle.protocol.specs.Form.{deregistering, handoffs, handoff_of}
use Rattle.protocol.specs.Refusals.{refusal, refusal_if}
use Rattle.protocol.specs.Step.{accept, step}
use Rattle.protocol.proofs.SetLaws.{has_set_of, has_some, without_lt}
use Rattle.protocol.proofs.Tests.{and_left, by_lt, on_update, eqb_self}
use Rattle.protocol.proofs.Accepted.{MayWire, unlined}
use Rattle.protocol.proofs.Invariant.{Held}
use Rattle.protocol.proofs.HandoffSteps.{deregistering_is}
use Rattle.protocol.proofs.InOrder as order
use Rattle.protocol.proofs.DeregisterStep.{completed_distinct}
use Rattle.protocol.proofs.QueueOrder.{completed_is}
use Rattle.stations.specs.View.{Stations, HasStation, stations_in}
use Rattle.carts.specs.Words.{HasRow}
use Rattle.carts.specs.View.{carts_in, canonical_in}
use Rattle.messages.specs.View.{rooms_in}
use Rattle.messages.proofs.RoomLaws.{waiting_past}
use Rattle.store.specs.Texts.{text_of}
use Rattle.lines.specs.Form.{form}
use Rattle.lines.specs.Lines.{used, registers_in}
use Rattle.lines.specs.Words.{capacity}
use Rattle.lines.specs.Post.{Popped}
use Rattle.view.specs.Records.{lines_in, words_of}
use Rattle.view.specs.View.{Lent, lent, floor_of, floor_in}
use Rattle.view.proofs.LinesView.{push_view, pop_view}
use Rattle.view.proofs.Lengths.{Lengths, lengths_right_lem}
use Rattle.view.proofs.Laid.{Laid, words_right_lem, local_stays, local_leaves, laid_carts, laid_push, laid_pop, laid_carry}
use Rattle.view.proofs.Registers.{NoRegister, none_unless_travelling, none_beheaded, carry_view, carried_row}
use Rattle.view.proofs.RecordWords.{register_is, register_right}
use Rattle.view.proofs.Room.{put_counts}
use Rattle.view.proofs.Standing.{Standing, few_stations, few_carts, held_number, used_popped, fits_after, one_line_counts}
use Rattle.queue.specs.Rooms.{tables_floor}
use Rattle.queue.proofs.AckLaws.{acked_by_masks}
use Rattle.handoff.specs.Forwarded.{HeldRooms, goes, ordered_rooms, emptied, PushedEach}
use Rattle.handoff.specs.Left.{left, lists_going, Left}
use Rattle.handoff.proofs.ArriveIs.{none_either_way}
use Rattle.handoff.proofs.ForwardLaws.{none_there, kept, pushed_counts}
use Rattle.handoff.proofs.ListsView.{Sends, lists_view, laid_lists, none_with_lists, lists_count}

-- WHAT IS KNOWN where the deregister of cart c is the head of the line from i to t
module _ (L : Lent) (X : Standing L) (c i t : ℕ) (rest : List Record) (may : MayWire (floor_in L) i t (deregister c) rest) where
  abbrev N : Limits
  N = limits_of L.product

  abbrev F : Floor
  F = floor_in L

  -- the floor once the record is off its line, and once the cart has left
  abbrev G : Floor
  G = leave (unlined F i t) i t c

  -- the rooms whose lists go then
  abbrev going : List ℕ
  going = order.completed N (unlined F i t) i t c

  -- the cart is leaving t for i
  pub is_leaving_lem : F.place c ≡ leaving t i
  is_leaving_lem =
      let z : deregistering ∷ handoffs c rest ≡ handoff_of (F.place c) i t (row_of N (F.next c)) = rw (may.line, eqb_self c) at (X.facts.handoffs_right c i t) in
      (deregistering_is (F.place c) i t (row_of N (F.next c)) (handoffs c rest) z).0

  pub is_cart : c < 64
  is_cart = let a = X.facts.real c (rw is_leaving_lem) in let b = few_carts L X in omega arith

  pub is_from : i < 16
  is_from = let a = may.from in let b = few_stations L X in omega arith

  pub is_station : t < 16
  is_station = let a = may.to in let b = few_stations L X in omega arith

  on_product : t < L.product.stations
  on_product = let a = may.to in let b = X.sized.counts.stations in omega arith

  -- THE HELD MESSAGES
  held_there : (m : ℕ) → eqb (F.waiting m) 0 ≡ false → Held N F.waiting m
  held_there m some =
      record {
        slot = by_lt m L.product.held (λ l. l) (λ l. absurd (eqb-false (F.waiting m) 0 some (waiting_past L.messages m (let z = X.lengths.messages in omega arith))));
        some = some;
      }

  sent_by : (m : ℕ) → eqb (F.waiting m) 0 ≡ false → (F.initiator m < F.stations) × (F.number m < 4294967296)
  sent_by m some =
      let a = X.facts.kept m (held_there m some) in
      (X.facts.senders (F.initiator m) (omega arith), held_number L X m (held_there m some))

  pub held_rooms : HeldRooms L.messages
  held_rooms =
      let a = X.lengths.messages in
      let b = L.product.held_fit in
      record {
        few = omega arith;
        none_beyond = λ m l. waiting_past L.messages m (omega arith);
        keyed = λ m some. let z = sent_by m (ne_eqb (F.waiting m) 0 some) in let y = few_stations L X in let x = z.0 in (z.1, omega arith);
      }

  -- THE LISTS THAT GO: by the station's masks they are the written ones
  abbrev pick : ℕ → Bool
  pick = goes (left (stations_in L.stations) t c) (rooms_in L.messages) t

  abbrev complete : ℕ → Bool
  complete m = is_buffered (unlined F i t) m t && is_complete G t m

  local_then : (d : ℕ) → d < 64 → has ((left (stations_in L.stations) t c).local t) d ≡ is_local G t d
  unfolding leave
  local_then d l =
      ap (λ (x : ℕ). has x d) (here ∙ ap (λ (x : ℕ). without x c) (X.laid.local t on_product) ∙ local_leaves (carts_in L.carts).place c t (travelling t i) refl)
      ∙ has_set_of 64 (λ e. local_to (update (carts_in L.carts).place c (travelling t i) e) t) d l
    where
      here : (left (stations_in L.stations) t c).local t ≡ without ((stations_in L.stations).local t) c
      here = rw (eqb_self t)

  goes_is : (m : ℕ) → m < L.product.held → pick m ≡ complete m
  unfolding leave is_complete
  goes_is m l =
      ap (λ (b : Bool). is_buffered F m t && (not (eqb (F.acks m t) 0) && b))
      (acked_by_masks G m t ((left (stations_in L.stations) t c).local t) local_then (few_carts L X) (X.sized.copies.copy m t l on_product))

  goes_beyond : (m : ℕ) → L.product.held ≤ m → pick m ≡ false
  goes_beyond m l = sym (none_there (left (stations_in L.stations) t c) L.messages t m held_rooms (let a = X.lengths.messages in omega arith))

  pub going_is : ordered_rooms L.messages pick ≡ going
  going_is =
      let n = L.product.held in
      let fits = L.product.held_fit in
      let all : 32 ≡ n + (32 - n) = omega arith in
      let T = tables_floor [] L.messages in
      ap (in_order T pick) all
      ∙ order.in_order_beyond T pick n (32 - n) goes_beyond
      ∙ order.same_picks T pick complete n goes_is
      ∙ order.same_order (unlined F i t) T complete n (λ k. refl) (λ k. refl)
      ∙ sym (completed_is N (unlined F i t) i t c)

  -- a room is in that list exactly if its list goes
  pub is_going : (m : ℕ) → order.among m going ≡ pick m
  is_going m =
      ap (order.among m) (completed_is N (unlined F i t) i t c)
      ∙ order.in_order_among (unlined F i t) complete L.product.held m
      ∙ by_lt m L.product.held
      (λ l. ap (λ (b : Bool). b && complete m) (lt-ltb m L.product.held l) ∙ sym (goes_is m l))
      (λ l. ap (λ (b : Bool). b && complete m) (le-ltb m L.product.held l) ∙ sym (goes_beyond m l))

  each_going : order.EachOf (λ m. (m < L.product.held) × (eqb (F.waiting m) 0 ≡ false)) going
  each_going =
      subst (order.EachOf (λ m. (m < L.product.held) × (eqb (F.waiting m) 0 ≡ false))) (sym (completed_is N (unlined F i t) i t c))
      (order.each_map (in_order (unlined F i t) complete L.product.held)
      (λ m h. (h.0, has_some (F.waiting m) t (and_left (has (F.waiting m) t) (ltb (F.number m) (F.expected t (F.initiator m))) (and_left (is_buffered F m t) (is_complete G t m) h.1))))
      (order.in_order_each (unlined F i t) complete L.product.held))

  pub each_sends : order.EachOf (Sends (rooms_in L.messages)) going
  each_sends =
      order.each_map going
      (λ m h. let a = h.0 in let b = L.product.held_fit in let d = (sent_by m h.1).0 in let e = few_stations L X in record { room = omega arith; initiator = omega arith; held = h.1 })
      each_going

  -- WHAT THE DEREGISTER REQUIRES of the parts
  pub deregister_ready : HasStation L.stations t × HasRow L.carts c × (c < 64) × ((carts_in L.carts).place c ≡ leaving t i) × HeldRooms L.messages
  deregister_ready =
      let a = X.lengths.stations in
      let b = X.lengths.carts in
      let d = is_cart in
      let e = X.sized.counts.carts in
      let f = X.sized.counts.stations in
      let g = X.facts.real c (rw is_leaving_lem) in
      let h = may.to in
      (omega arith, omega arith, d, is_leaving_lem, held_rooms)

  -- the head of the line is handled
  pub handled : on_wire N F i t ≡ on_deregister N (unlined F i t) i t c
  unfolding on_wire handle
  handled = rw may.line

  abbrev after : Floor
  after = push (order.send_each G t going) (between t i) (register c (row_of N (F.next c)))

  stepped : step N F (wire i t) ≡ after
  unfolding step accept refusal refusal_if
  stepped =
      rw (X.passes, lt-leb F.stations i may.from, lt-leb F.stations t may.to, may.line)
      (ap (λ (d : Done). d.floor) handled ∙ order.deregister_is N (unlined F i t) i t c)

  same_stations : after.stations ≡ F.stations
  unfolding leave
  same_stations = ap (λ (H : Floor). H.stations) (order.send_each_is G t going)

  -- and of the lines, once it is taken off: there is room for the lists and for the register
  pub register_has_room : (W₁ : List ℕ) → Popped L.lines W₁ (i * 16 + t)
      → (form W₁ ≡ true) × (used W₁ + lists_going L.stations L.messages t c < capacity W₁) × (t < 16) × (i < 16)
  unfolding leave
  register_has_room W₁ pop =
      let n = F.stations in
      let fits : on_the_lines n after.lines ≤ capacity L.lines = subst (λ (H : Floor). on_the_lines n H.lines ≤ capacity L.lines) stepped (fits_after L X (wire i t) (ap (λ (H : Floor). H.stations) stepped ∙ same_stations)) in
      let one = one_line_counts n t i may.to may.from in
      let counts = put_counts n (between t i) (register c (row_of N (F.next c))) (order.send_each G t going).lines in
      let lists = lists_count n G t going may.to (order.each_map going (λ m h. (sent_by m h.1).0) each_going) in
      let off = used_popped L X W₁ i t is_from is_station pop in
      let many = ap (λ (l : List ℕ). length l) going_is in
      let room = pop.room in
      (pop.formed, omega arith, is_station, is_from)

module _ {P : Product} (S S' C C' M W W₁ W' T O : List ℕ) (c i t w : ℕ) (rest : List Record) (X : Standing (lent P S C M W T O))
    (may : MayWire (floor_in (lent P S C M W T O)) i t (deregister c) rest) (pop : Popped W W₁ (i * 16 + t)) (gone : Left S S' C C' M W₁ W' c t i w) where
  abbrev L : Lent
  L = lent P S C M W T O

  abbrev L' : Lent
  L' = lent P S' C' M W' T O

  abbrev H : Floor
  H = leave (unlined (floor_in L) i t) i t c

  abbrev rooms : List ℕ
  rooms = order.completed (limits_of P) (unlined (floor_in L) i t) i t c

  lc : c < 64
  lc = is_cart L X c i t rest may

  li : i < 16
  li = is_from L X c i t rest may

  lt : t < 16
  lt = is_station L X c i t rest may

  -- the lists that went are those of these rooms
  abbrev chosen : ℕ → Bool
  chosen = goes (stations_in gone.behind) (rooms_in M) t

  chosen_is : chosen ≡ goes (left (stations_in S) t c) (rooms_in M) t
  chosen_is = ap (λ (Z : Stations). goes Z (rooms_in M) t) gone.has_left

  lists_are : ordered_rooms M chosen ≡ rooms
  lists_are = ap (ordered_rooms M) chosen_is ∙ going_is L X c i t rest may

  pushed : PushedEach (stations_in gone.behind) (rooms_in M) t rooms W₁ gone.lists
  pushed = subst (λ (l : List ℕ). PushedEach (stations_in gone.behind) (rooms_in M) t l W₁ gone.lists) lists_are gone.forwarded.lines

  lengths : Lengths L'
  lengths =
      record {
        stations = gone.forwarded.words ∙ (gone.behind_table ∙ X.lengths.stations);
        carts = gone.length ∙ X.lengths.carts;
        messages = X.lengths.messages;
        lines = gone.lines.words ∙ (gone.row.words ∙ ((pushed_counts (stations_in gone.behind) (rooms_in M) t rooms W₁ gone.lists pop.formed pushed).words ∙ (pop.words ∙ X.lengths.lines)));
        texts = X.lengths.texts;
        store = X.lengths.store;
      }

  -- a travelling cart is local nowhere: it was local to t
  locals : (u : ℕ) → u < P.stations → (stations_in S').local u ≡ set_of 64 (λ d. local_to ((carts_in C').place d) u)
  locals u l =
      ap (λ (Z : Stations). Z.local u) gone.forwarded.stations
      ∙ ap (λ (Z : Stations). Z.local u) gone.has_left
      ∙ on_update (λ (x : ℕ). x ≡ set_of 64 (λ d. local_to (update (carts_in C).place c (travelling t i) d) u)) (stations_in S).local t (without ((stations_in S).local t) c) u
      (λ q. rw q (ap (λ (x : ℕ). without x c) (X.laid.local t (let a = may.to in let b = X.sized.counts.stations in omega arith)) ∙ local_leaves (carts_in C).place c t (travelling t i) refl))
      (λ q. X.laid.local u l ∙ local_stays (carts_in C).place c u (travelling t i) (sym (ap (λ (p : Place). local_to p u) (is_leaving_lem L X c i t rest may) ∙ ne_eqb t u (λ y. q (sym y)))))
      ∙ ap (λ (K : Carts). set_of 64 (λ d. local_to (K.place d) u)) (sym gone.carts)

  -- no copy and no entry beyond the rooms
  few : (u m : ℕ) → u < P.stations → m < 32 → P.held ≤ m → ((stations_in S').copy m u ≡ 0) × ((stations_in S').queue m u ≡ 0)
  few u m lu lm l =
      let was = X.laid.few u m lu lm l in
      let Z = stations_in gone.behind in
      let stays = sym (none_there Z M t m (held_rooms L X c i t rest may) (let a = X.lengths.messages in omega arith)) in (
        ap (λ (Y : Stations). Y.copy m u) gone.forwarded.stations ∙ kept (eqb u t) (chosen m) (minus (Z.copy m u) (Z.acks m u)) (Z.copy m u) stays
            ∙ ap (λ (Y : Stations). Y.copy m u) gone.has_left ∙ was.0,
        ap (λ (Y : Stations). Y.queue m u) gone.forwarded.stations ∙ ap (λ (Y : Stations). Y.queue m u) gone.has_left
            ∙ rw was.1 (none_either_way (eqb u t) (without 0 c) (let z = without_lt 0 0 c (omega arith) in omega arith)),
      )

  pub laid : Laid L'
  laid =
      laid_push S' C' M gone.carrying T O
      (laid_carry S' C' M gone.lists T O
      (laid_lists (stations_in gone.behind) S' C' M T O t lt rooms (each_sends L X c i t rest may) W₁ gone.lists pushed
      (laid_carts S C M W₁ T O (laid_pop S C M W T O X.laid W₁ i t li lt pop) S' C'
      (λ d ld. ap (λ (f : ℕ → Bool). f d) gone.canonical ∙ on_update (λ (b : Bool). b ≡ true) (canonical_in C) c true d (λ q. refl) (λ q. X.laid.canonical d ld))
      locals few))
      gone.carrying c (list_of 16 ((carts_in C).next c)) gone.row)
      W' t i (words_of 5 c 0 0) lt li gone.lines (register_right (rooms_in M) t i c (omega (arith, lc)))

  -- THE LINES: the lists, on those from which the record is taken off
  with_lists : lines_in gone.lists ≡ order.lists_on H t rooms (behead i t (lines_in W))
  unfolding leave
  with_lists =
      lists_view (stations_in gone.behind) (rooms_in M) t lt H refl refl (λ m. ap (λ (Z : Stations). Z.acks m t) gone.has_left) rooms (each_sends L X c i t rest may) W₁ gone.lists pushed
      ∙ ap (order.lists_on H t rooms) (pop_view W W₁ i t li lt pop)

  -- a leaving cart has no register on a line, also where its deregister is taken off and lists are put
  no_register : (a b : ℕ) → NoRegister (handoffs c (lines_in gone.lists a b))
  no_register a b =
      rw (ap (λ (l : ℕ → ℕ → List Record). handoffs c (l a b)) with_lists)
      (none_with_lists c H t rooms (behead i t (lines_in W))
      (λ a b. none_beheaded c i t (lines_in W) a b
      (rw (X.facts.handoffs_right c a b, is_leaving_lem L X c i t rest may)
      (none_unless_travelling (leaving t i) a b (row_of (limits_of P) ((carts_in C).next c)) (λ s u e. (let z : ◌≡◌ {A = ℕ} 0 1 = cc e in omega arith))))) a b)

  -- "the register record carries the cart's whole row of next numbers", behind the lists
  lines : lines_in W' ≡ put (between t i) (register c (list_of 16 ((carts_in C).next c))) (order.send_each H t rooms).lines
  unfolding leave
  lines =
      push_view gone.carrying W' t i (words_of 5 c 0 0) lt li gone.lines
      ∙ ap₂ (λ (r : Record) (l : ℕ → ℕ → List Record). put (between t i) r l)
      (register_is (registers_in gone.carrying) c (omega (arith, lc)) ∙ ap (register c) (carried_row gone.lists gone.carrying c _ gone.row ((carts_in C).next c) refl))
      (carry_view gone.lists gone.carrying c _ gone.row no_register ∙ with_lists ∙ sym (order.lines_after H t rooms (completed_distinct (limits_of P) (unlined (floor_in L) i t) i t c)))

  -- THE STATIONS: "struck and emptied"
  abbrev then : Stations
  then =
      let Z = left (stations_in S) t c in
      record { sent = Z.sent; expected = Z.expected; local = Z.local; copy = (order.send_each H t rooms).copy; acks = (order.send_each H t rooms).acks; queue = Z.queue }

  struck : (m u : ℕ) → (emptied (left (stations_in S) t c) t (goes (left (stations_in S) t c) (rooms_in M) t)).copy m u ≡ (order.send_each H t rooms).copy m u
  unfolding leave
  struck m u =
      ap (λ (b : Bool). cond (eqb u t && b) (minus ((stations_in S).copy m u) ((stations_in S).acks m u)) ((stations_in S).copy m u)) (sym (is_going L X c i t rest may m))
      ∙ sym (order.copy_after H t rooms (completed_distinct (limits_of P) (unlined (floor_in L) i t) i t c) m u)

  none_left : (m u : ℕ) → (emptied (left (stations_in S) t c) t (goes (left (stations_in S) t c) (rooms_in M) t)).acks m u ≡ (order.send_each H t rooms).acks m u
  unfolding leave
  none_left m u =
      ap (λ (b : Bool). cond (eqb u t && b) 0 ((stations_in S).acks m u)) (sym (is_going L X c i t rest may m))
      ∙ sym (order.acks_after H t rooms m u)

  stations : stations_in S' ≡ then
  stations =
      let Z = left (stations_in S) t c in
      gone.forwarded.stations
      ∙ ap (λ (Y : Stations). emptied Y t (goes Y (rooms_in M) t)) gone.has_left
      ∙ (λ k. record { sent = Z.sent; expected = Z.expected; local = Z.local; copy = λ m u. struck m u k; acks = λ m u. none_left m u k; queue = Z.queue })

  -- "the cart leaves every queue entry here (emptied entries go) and the local list"; the lists go, and a register goes to the new station
  left_is : floor_in L' ≡ (on_deregister (limits_of P) (unlined (floor_in L) i t) i t c).floor
  unfolding leave
  left_is =
      (λ k. floor_of ((lengths_right_lem L' lengths ∙ sym (lengths_right_lem L X.lengths)) k) ((words_right_lem L' laid ∙ sym (words_right_lem L X.laid)) k)
      ((gone.forwarded.head ∙ gone.behind_head) k) (stations k) (gone.carts k) (rooms_in M) (text_of T O (rooms_in M)) (lines k))
      ∙ sym (order.deregister_is (limits_of P) (unlined (floor_in L) i t) i t c
      ∙ ap (λ (K : Floor). push K (between t i) (register c (row_of (limits_of P) ((carts_in C).next c)))) (order.send_each_is H t rooms))

  pub deregister_is : floor_in L' ≡ (on_wire (limits_of P) (floor_in L) i t).floor
  deregister_is = left_is ∙ ap (λ (d : Done). d.floor) (sym (handled L X c i t rest may))

  -- "3 4": wire, deregister; "w counts them": the lists, and the register
  records : (on_deregister (limits_of P) (unlined (floor_in L) i t) i t c).report.w ≡ w
  records =
      let a = order.deregister_lists (limits_of P) (unlined (floor_in L) i t) i t c in
      let b = gone.forwarded.count ∙ ap (λ (l : List ℕ). length l) lists_are in
      let d = gone.count in
      omega arith

  pub deregister_reports : (on_wire (limits_of P) (floor_in L) i t).report ≡ record { kind = 3; a = 4; b = c; p = 0; w = w; q = 0; text = [] }
  unfolding on_deregister
  deregister_reports = ap (λ (d : Done). d.report) (handled L X c i t rest may) ∙ (λ k. record { kind = 3; a = 4; b = c; p = 0; w = records k; q = 0; text = [] })
