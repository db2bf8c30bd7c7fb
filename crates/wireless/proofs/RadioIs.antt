-- A MESSAGE HANDED OVER in the lent parts is the written radio step: the floor that they then say is the floor of that step.
use mathlib.Core.Path.{◌≡◌, refl, sym, ap, ap₂, ◌∙◌, subst}
use mathlib.Core.Bool.{Bool, true, false, cond, ◌&&◌}
use mathlib.Core.List.{List}
use mathlib.Core.Option.{Option, none, some}
use Prim.Native.Nat.{ℕ, suc, ◌-◌, ◌≤◌, ◌<◌, ◌^◌}
use native.Mathlib.Omega.{arith}
use lib.Dec.{eqb}
use borrow.Author.Tests.{eq-eqb}
use Rattle.queue.specs.Places.{place_among}
use Rattle.protocol.specs.Order.{place_in}
use Rattle.protocol.specs.Folds.{update2, by_option}
use Rattle.protocol.specs.CartSets.{has, set_of, with, without, minus}
use Rattle.protocol.specs.Floor.{Product, limits_of, Floor, Carts, Record, ack_list, put, between, local_to, set_next}
use Rattle.protocol.specs.Handoff.{catch_up, catch_up_stop, enqueue, place_given, Stop}
use Rattle.protocol.specs.Wireless.{receive, all_acked, send_acks, send_acks_if_all, hand_over, on_radio}
use Rattle.protocol.proofs.Tests.{on_update2, update2_at, by_test, by_lt, both_differ, eqb_self}
use Rattle.protocol.proofs.SetLaws.{has_zero}
use Rattle.protocol.proofs.Accepted.{MayRadio}
use Rattle.protocol.proofs.Invariant.{Queued}
use Rattle.stations.specs.View.{Stations, Head, head_in, stations_in, with_copy, with_acks, with_queue}
use Rattle.stations.proofs.TableLaws.{copy_beyond}
use Rattle.carts.specs.View.{carts_in, with_next}
use Rattle.messages.specs.View.{rooms_in}
use Rattle.store.specs.Texts.{text_of}
use Rattle.lines.specs.Lines.{registers_in}
use Rattle.view.specs.Records.{lines_in, words_of, is_in}
use Rattle.view.specs.View.{Lent, lent, lengths_in, words_in, local_right, floor_of, floor_in}
use Rattle.view.proofs.LinesView.{push_view}
use Rattle.view.proofs.Lengths.{Lengths, lengths_right_lem}
use Rattle.view.proofs.Laid.{Laid, words_right_lem, laid_stations, laid_carts, laid_push}
use Rattle.view.proofs.RecordWords.{ack_list_is, ack_list_right}
use Rattle.view.proofs.Standing.{Standing, few_carts}
use Rattle.queue.specs.Rooms.{tables_floor, room_code, room_count}
use Rattle.queue.proofs.AckLaws.{all_acked_lem}
use Rattle.catchup.proofs.ClosedForm.{same_stop}
use Rattle.catchup.proofs.RoomLaws.{nearest_decoded}
use Rattle.catchup.proofs.QueueLaws.{queued_none}
use Rattle.catchup.proofs.Stops.{NoneBeyond, lent_agree, stops_there, stop_found}
use Rattle.catchup.specs.Nearest.{nearest_among, stop_by}
use Rattle.catchup.specs.Arrival.{is_found, queued_for, place_found}
use Rattle.wireless.specs.Handed.{Received, hold_none, AcksSent, nearest_from, CaughtUp, HandedOver}
use Rattle.wireless.proofs.Asks.{radio_numbers}
use Rattle.wireless.proofs.Parts.{not_found}

-- THE FIRST PART: from any lent parts that lie right
module _ {P : Product} (S S₁ C C₁ M W T O : List ℕ) (m t c x : ℕ) (lh : m < P.held) (sizes : Lengths (lent P S C M W T O)) (laid : Laid (lent P S C M W T O))
    (received : Received S S₁ C C₁ m ((rooms_in M).initiator m) ((rooms_in M).number m) t c x) where
  abbrev L : Lent
  L = lent P S C M W T O

  abbrev L₁ : Lent
  L₁ = lent P S₁ C₁ M W T O

  pub lengths₁ : Lengths L₁
  lengths₁ = record { stations = received.words ∙ sizes.stations; carts = received.rows ∙ sizes.carts; messages = sizes.messages; lines = sizes.lines; texts = sizes.texts; store = sizes.store }

  pub laid₁ : Laid L₁
  laid₁ =
      laid_carts S C M W T O laid S₁ C₁
      (λ d ld. ap (λ (f : ℕ → Bool). f d) received.canonical ∙ laid.canonical d ld)
      (λ u l. ap (λ (X : Stations). X.local u) received.stations ∙ laid.local u l ∙ ap (λ (K : Carts). set_of 64 (λ d. local_to (K.place d) u)) (sym received.carts))
      (λ u r lu lr l. let was = laid.few u r lu lr l in (
        ap (λ (X : Stations). X.copy r u) received.stations ∙ was.0,
        ap (λ (X : Stations). X.queue r u) received.stations
            ∙ on_update2 (λ (y : ℕ). y ≡ 0) (stations_in S).queue m t (without ((stations_in S).queue m t) c) r u (λ e f. absurd (omega arith)) (λ e. was.1),
      ))

  carts₁ : carts_in C₁ ≡ with_next (carts_in C) c ((rooms_in M).initiator m) (suc ((rooms_in M).number m))
  carts₁ = let risen : x ≡ suc ((rooms_in M).number m) = received.next ∙ omega arith in received.carts ∙ ap (with_next (carts_in C) c ((rooms_in M).initiator m)) risen

  pub received_is : floor_in L₁ ≡ receive (floor_in L) m t c
  unfolding receive
  received_is =
      λ i. floor_of ((lengths_right_lem L₁ lengths₁ ∙ sym (lengths_right_lem L sizes)) i) ((words_right_lem L₁ laid₁ ∙ sym (words_right_lem L laid)) i)
      (received.head i) (received.stations i) (carts₁ i) (rooms_in M) (text_of T O (rooms_in M)) (lines_in W)

-- THE SECOND: the ack list goes if nobody holds it back
module _ {P : Product} (S₁ S₂ C₁ M W W' T O : List ℕ) (m t w : ℕ) (lh : m < P.held) (lp : t < P.stations) (sizes : Lengths (lent P S₁ C₁ M W T O)) (laid : Laid (lent P S₁ C₁ M W T O))
    (lt : t < 16) (few : (head_in S₁).carts ≤ 64) (ls : (rooms_in M).initiator m < 16) (fits : (stations_in S₁).copy m t < 2 ^ (head_in S₁).carts) (held : eqb ((rooms_in M).waiting m) 0 ≡ false)
    (acks : AcksSent S₁ S₂ W W' m ((rooms_in M).initiator m) ((rooms_in M).number m) t w) where
  abbrev L₁' : Lent
  L₁' = lent P S₁ C₁ M W T O

  abbrev L₂ : Lent
  L₂ = lent P S₂ C₁ M W' T O

  abbrev s : ℕ
  s = (rooms_in M).initiator m

  abbrev n : ℕ
  n = (rooms_in M).number m

  abbrev X : Stations
  X = stations_in S₁

  abbrev said : ℕ → Record
  said x = ack_list n x

  -- the code's test is the written one
  all_is : hold_none X m t ≡ all_acked (floor_in L₁') m t
  unfolding local_right
  all_is = all_acked_lem L₁' m t (eq-eqb (X.local t) _ (laid.local t lp)) few fits

  in_room_lem : is_in (rooms_in M) s n m ≡ true
  in_room_lem = rw (held, eqb_self s, eqb_self n) refl

  lm : m < 32
  lm = let a = P.held_fit in omega arith

  -- no copy and no entry beyond the rooms
  few_sent : stations_in S₂ ≡ with_acks (with_copy X m t (minus (X.copy m t) (X.acks m t))) m t 0
      → (u r : ℕ) → u < P.stations → r < 32 → P.held ≤ r → ((stations_in S₂).copy r u ≡ 0) × ((stations_in S₂).queue r u ≡ 0)
  few_sent q u r lu lr l =
      let was = laid.few u r lu lr l in (
        ap (λ (Y : Stations). Y.copy r u) q
            ∙ on_update2 (λ (y : ℕ). y ≡ 0) X.copy m t (minus (X.copy m t) (X.acks m t)) r u (λ e f. absurd (omega arith)) (λ e. was.0),
        ap (λ (Y : Stations). Y.queue r u) q ∙ was.1,
      )

  when_all : (hold_none X m t ≡ true) → Lengths L₂ × Laid L₂ × (floor_in L₂ ≡ send_acks (floor_in L₁') m t)
  unfolding send_acks
  when_all e =
      let y = acks.yes e in
      let z = lm in
      let lengths₂ : Lengths L₂ =
      record { stations = acks.words ∙ sizes.stations; carts = sizes.carts; messages = sizes.messages; lines = y.1.words ∙ sizes.lines; texts = sizes.texts; store = sizes.store } in
      let laid₂ : Laid L₂ =
      laid_push S₂ C₁ M W T O (laid_stations S₁ C₁ M W T O laid S₂ (λ u l. ap (λ (Y : Stations). Y.local u) y.0) (few_sent y.0)) W' t s (words_of 2 m n (X.acks m t)) lt ls y.1
      (ack_list_right (rooms_in M) t s m n (X.acks m t) (omega arith) in_room_lem) in (
        lengths₂,
        laid₂,
        λ i. floor_of ((lengths_right_lem L₂ lengths₂ ∙ sym (lengths_right_lem L₁' sizes)) i) ((words_right_lem L₂ laid₂ ∙ sym (words_right_lem L₁' laid)) i)
            (acks.head i) (y.0 i) (carts_in C₁) (rooms_in M) (text_of T O (rooms_in M))
            ((push_view W W' t s (words_of 2 m n (X.acks m t)) lt ls y.1
            ∙ ap (λ (r : Record). put (between t s) r (lines_in W)) (ack_list_is (registers_in W) m n (X.acks m t) (omega arith))) i),
      )

  when_not : (hold_none X m t ≡ false) → Lengths L₂ × Laid L₂ × (floor_in L₂ ≡ floor_in L₁')
  when_not e =
      let y = acks.no e in
      let same : (Z : List ℕ) → Z ≡ W → Lengths (lent P S₂ C₁ M Z T O) × Laid (lent P S₂ C₁ M Z T O) × (floor_in (lent P S₂ C₁ M Z T O) ≡ floor_in L₁') =
      λ Z q. subst (λ (Z : List ℕ). Lengths (lent P S₂ C₁ M Z T O) × Laid (lent P S₂ C₁ M Z T O) × (floor_in (lent P S₂ C₁ M Z T O) ≡ floor_in L₁')) (sym q) stays in
      same W' y.1
    where
      K : Lent
      K = lent P S₂ C₁ M W T O

      lengths_k : Lengths K
      lengths_k = record { stations = acks.words ∙ sizes.stations; carts = sizes.carts; messages = sizes.messages; lines = sizes.lines; texts = sizes.texts; store = sizes.store }

      laid_k : Laid K
      laid_k = laid_stations S₁ C₁ M W T O laid S₂ (λ u l. ap (λ (Y : Stations). Y.local u) (acks.no e).0)
          (λ u r lu lr l. let was = laid.few u r lu lr l in (ap (λ (Y : Stations). Y.copy r u) (acks.no e).0 ∙ was.0, ap (λ (Y : Stations). Y.queue r u) (acks.no e).0 ∙ was.1))

      stays : Lengths (lent P S₂ C₁ M W T O) × Laid (lent P S₂ C₁ M W T O) × (floor_in (lent P S₂ C₁ M W T O) ≡ floor_in L₁')
      stays = (
        lengths_k,
        laid_k,
        λ i. floor_of ((lengths_right_lem K lengths_k ∙ sym (lengths_right_lem L₁' sizes)) i) ((words_right_lem K laid_k ∙ sym (words_right_lem L₁' laid)) i)
            (acks.head i) ((acks.no e).0 i) (carts_in C₁) (rooms_in M) (text_of T O (rooms_in M)) (lines_in W),
      )

  -- and the number of records that went is the written one
  pub acks_are : Lengths L₂ × Laid L₂ × (floor_in L₂ ≡ send_acks_if_all (floor_in L₁') m t) × (w ≡ cond (all_acked (floor_in L₁') m t) 1 0)
  acks_are =
      by_test (hold_none X m t)
      (λ e. let y = when_all e in let all : all_acked (floor_in L₁') m t ≡ true = sym all_is ∙ e in (y.0, y.1, rw all y.2, rw all (acks.yes e).2))
      (λ e. let y = when_not e in let some : all_acked (floor_in L₁') m t ≡ false = sym all_is ∙ e in (y.0, y.1, rw some y.2, rw some (acks.no e).2))

-- THE THIRD: catch-up for that initiator
module _ {P : Product} (S₂ S' C₁ C' M W T O : List ℕ) (s t c x p q : ℕ) (lp : t < P.stations) (sizes : Lengths (lent P S₂ C₁ M W T O)) (laid : Laid (lent P S₂ C₁ M W T O))
    (caught : CaughtUp S₂ S' C₁ C' M s t c x p q) (next_is_lem : (carts_in C₁).next c s ≡ x) where
  abbrev L₂' : Lent
  L₂' = lent P S₂ C₁ M W T O

  abbrev L₃ : Lent
  L₃ = lent P S' C' M W T O

  abbrev G : Floor
  G = floor_in L₂'

  abbrev o : Option ℕ
  o = nearest_from (tables_floor S₂ M) t c s x

  abbrev u : ℕ
  u = (stop_by (tables_floor S₂ M) t s x o).upto

  -- no copy here is of a room beyond the table
  none_named : (r : ℕ) → P.held ≤ r → (stations_in S₂).copy r t ≡ 0
  none_named r l = by_lt r 32 (λ k. (laid.few t r lp k l).0) (λ k. copy_beyond S₂ r t k)

  beyond : NoneBeyond (limits_of P) G t c
  beyond = (P.held_fit, λ r l. ap (λ (y : ℕ). has y c) (none_named r l) ∙ has_zero c)

  lengths₃ : Lengths L₃
  lengths₃ = record { stations = caught.words ∙ sizes.stations; carts = caught.rows ∙ sizes.carts; messages = sizes.messages; lines = sizes.lines; texts = sizes.texts; store = sizes.store }

  laid₃ : Laid L₃
  laid₃ =
      laid_carts S₂ C₁ M W T O laid S' C' (λ d ld. ap (λ (f : ℕ → Bool). f d) caught.canonical ∙ laid.canonical d ld)
      (λ v l. ap (λ (Y : Stations). Y.local v) caught.stations ∙ laid.local v l ∙ ap (λ (K : Carts). set_of 64 (λ d. local_to (K.place d) v)) (sym caught.carts))
      (λ v r lv lr l. let was = laid.few v r lv lr l in (
        ap (λ (Y : Stations). Y.copy r v) caught.stations ∙ was.0,
        ap (λ (Y : Stations). Y.queue r v) caught.stations
            ∙ rw (not_found (tables_floor S₂ M) t c s x P.held r none_named l) (by_test (eqb v t) (λ e. rw e was.1) (λ e. rw e was.1)),
      ))

  -- where the code stopped is where the written loop stops
  stop_is : catch_up_stop (limits_of P) G t c s ≡ record { upto = u; found = o }
  stop_is =
      let a = stops_there (limits_of P) G S₂ M (lent_agree L₂') t c beyond s (room_code (nearest_among (tables_floor S₂ M) t c s (G.next c s) 32)) refl in
      sym a ∙ ap (λ (h : Option ℕ). stop_by (tables_floor S₂ M) t s (G.next c s) h) (nearest_decoded (tables_floor S₂ M) t c s (G.next c s) 32)
      ∙ ap (λ (y : ℕ). stop_by (tables_floor S₂ M) t s y (nearest_among (tables_floor S₂ M) t c s y 32)) next_is_lem
      ∙ same_stop (stop_by (tables_floor S₂ M) t s x o) u o refl (stop_found (tables_floor S₂ M) t s x o)

  -- the floor with that number, and the queues that the code left
  abbrev raised : Floor
  raised = set_next G (update2 G.next c s u)

  queued : (h : Option ℕ) → floor_of (lengths_in L₂') (words_in L₂') (head_in S₂) (queued_for (stations_in S₂) t c (is_found h)) (with_next (carts_in C₁) c s u) (rooms_in M) (text_of T O (rooms_in M)) (lines_in W)
      ≡ by_option h raised (λ k. enqueue raised k t c)
  queued none = λ i. floor_of (lengths_in L₂') (words_in L₂') (head_in S₂) (sym (queued_none (stations_in S₂) t c (λ k. false) (λ k. refl)) i) (with_next (carts_in C₁) c s u) (rooms_in M) (text_of T O (rooms_in M)) (lines_in W)
  queued (some k) = λ i. floor_of (lengths_in L₂') (words_in L₂') (head_in S₂) (one k i) (with_next (carts_in C₁) c s u) (rooms_in M) (text_of T O (rooms_in M)) (lines_in W)
    where
      queue_of : (k d v : ℕ) → cond (eqb v t && eqb d k) (with ((stations_in S₂).queue d v) c) ((stations_in S₂).queue d v) ≡ update2 (stations_in S₂).queue k t (with ((stations_in S₂).queue k t) c) d v
      queue_of k d v =
          on_update2 (λ (y : ℕ). cond (eqb v t && eqb d k) (with ((stations_in S₂).queue d v) c) ((stations_in S₂).queue d v) ≡ y) (stations_in S₂).queue k t (with ((stations_in S₂).queue k t) c) d v
          (λ e f. rw (eq-eqb v t f, eq-eqb d k e) (rw (e, f) refl))
          (λ h. rw (both_differ v t d k (λ f e. h e f)) refl)

      one : (k : ℕ) → queued_for (stations_in S₂) t c (is_found (some k)) ≡ with_queue (stations_in S₂) k t (with ((stations_in S₂).queue k t) c)
      one k = λ i. record {
        sent = (stations_in S₂).sent;
        expected = (stations_in S₂).expected;
        local = (stations_in S₂).local;
        copy = (stations_in S₂).copy;
        acks = (stations_in S₂).acks;
        queue = λ d v. queue_of k d v i;
      }

  pub caught_is : floor_in L₃ ≡ catch_up (limits_of P) G t c s
  unfolding catch_up
  caught_is =
      rw stop_is
      ((λ i. floor_of ((lengths_right_lem L₃ lengths₃ ∙ sym (lengths_right_lem L₂' sizes)) i) ((words_right_lem L₃ laid₃ ∙ sym (words_right_lem L₂' laid)) i)
      (caught.head i) (caught.stations i) (caught.carts i) (rooms_in M) (text_of T O (rooms_in M)) (lines_in W)) ∙ queued o)

  -- the messages' table has the product's rooms
  all_rooms : room_count M ≡ P.held
  all_rooms = let a = sizes.messages in omega arith

  -- "the entry's place, .. as it stands right after the putting"
  pub caught_place : q ≡ place_given (limits_of P) G t c s
  unfolding place_given place_in place_among
  caught_place =
      caught.place
      ∙ ap (λ (k : ℕ). place_found (stations_in S') (rooms_in M) t k o) all_rooms
      ∙ by_found o
      ∙ ap (λ (X : Floor). by_option o 0 (λ k. place_in (limits_of P) X k t)) caught_is
      ∙ sym (ap (λ (r : Stop). by_option r.found 0 (λ k. place_in (limits_of P) (catch_up (limits_of P) G t c s) k t)) stop_is)
    where
      by_found : (h : Option ℕ) → place_found (stations_in S') (rooms_in M) t P.held h ≡ by_option h 0 (λ k. place_in (limits_of P) (floor_in L₃) k t)
      by_found none = refl
      by_found (some k) = refl

-- THE WHOLE STEP
module _ {P : Product} (S S' C C' M W W' T O : List ℕ) (m t c p w q : ℕ) (X : Standing (lent P S C M W T O)) (may : MayRadio (limits_of P) (floor_in (lent P S C M W T O)) t c m)
    (over : HandedOver S S' C C' M W W' m ((rooms_in M).initiator m) ((rooms_in M).number m) t c p w q) where
  abbrev K₀ : Lent
  K₀ = lent P S C M W T O

  abbrev F : Floor
  F = floor_in K₀

  abbrev i₀ : ℕ
  i₀ = (rooms_in M).initiator m

  abbrev n₀ : ℕ
  n₀ = (rooms_in M).number m

  abbrev K₁ : Lent
  K₁ = lent P over.S₁ over.C₁ M W T O

  abbrev K₂ : Lent
  K₂ = lent P over.S₂ over.C₁ M W' T O

  is_queued_lem : Queued (limits_of P) F.waiting F.initiator F.number F.named F.place F.next m t c
  is_queued_lem = X.facts.queues m t c may.queued

  lh₀ : m < P.held
  lh₀ = (radio_numbers K₀ X t c m may).0

  lp₀ : t < P.stations
  lp₀ = let a = may.station in let b = X.sized.counts.stations in omega arith

  one : floor_in K₁ ≡ receive F m t c
  one = received_is S over.S₁ C over.C₁ M W T O m t c over.next lh₀ X.lengths X.laid over.received

  two : Lengths K₂ × Laid K₂ × (floor_in K₂ ≡ send_acks_if_all (floor_in K₁) m t) × (w ≡ cond (all_acked (floor_in K₁) m t) 1 0)
  two =
      let r = radio_numbers K₀ X t c m may in
      let top = over.received.head in
      let many : (head_in over.S₁).carts ≡ (head_in S).carts = ap (λ (h : Head). h.carts) top in
      let copy : (stations_in over.S₁).copy m t ≡ (stations_in S).copy m t = ap (λ (Y : Stations). Y.copy m t) over.received.stations in
      let fit = X.sized.copies.copy m t lh₀ lp₀ in
      let e = few_carts K₀ X in
      acks_are over.S₁ over.S₂ over.C₁ M W W' T O m t w lh₀ lp₀
      (lengths₁ S over.S₁ C over.C₁ M W T O m t c over.next lh₀ X.lengths X.laid over.received)
      (laid₁ S over.S₁ C over.C₁ M W T O m t c over.next lh₀ X.lengths X.laid over.received)
      r.1 (omega arith) r.3 (rw (copy, many) fit) is_queued_lem.held.some over.acks

  next₁ : (carts_in over.C₁).next c i₀ ≡ over.next
  next₁ = ap (λ (k : Carts). k.next c i₀) over.received.carts ∙ update2_at (carts_in C).next c i₀ over.next

  -- "the head message of the queue is handed to the cart"
  pub over_is : floor_in (lent P S' C' M W' T O) ≡ (hand_over (limits_of P) F m t c).floor
  unfolding hand_over
  over_is =
      caught_is over.S₂ S' over.C₁ C' M W' T O i₀ t c over.next p q lp₀ two.0 two.1 over.caught next₁
      ∙ ap (λ (G : Floor). catch_up (limits_of P) G t c i₀) (two.2 ∙ ap (λ (G : Floor). send_acks_if_all G m t) one)

  -- what it reports
  pub over_reports : (p ≡ (hand_over (limits_of P) F m t c).report.p) × (w ≡ (hand_over (limits_of P) F m t c).report.w) × (q ≡ (hand_over (limits_of P) F m t c).report.q)
  unfolding hand_over
  over_reports =
      let upto : (floor_in (lent P S' C' M W' T O)).next c i₀ ≡ (stop_by (tables_floor over.S₂ M) t i₀ over.next (nearest_from (tables_floor over.S₂ M) t c i₀ over.next)).upto =
      ap (λ (k : Carts). k.next c i₀) over.caught.carts ∙ update2_at (carts_in over.C₁).next c i₀ _ in
      let plus : over.next ≡ suc n₀ = over.received.next ∙ omega arith in (
        over.caught.passed ∙ ap₂ (λ (y z : ℕ). y - z) (sym upto) plus ∙ ap (λ (G : Floor). G.next c i₀ - suc n₀) over_is,
        two.3 ∙ ap (λ (G : Floor). cond (all_acked G m t) 1 0) one,
        caught_place over.S₂ S' over.C₁ C' M W' T O i₀ t c over.next p q lp₀ two.0 two.1 over.caught next₁
            ∙ ap (λ (G : Floor). place_given (limits_of P) G t c i₀) (two.2 ∙ ap (λ (G : Floor). send_acks_if_all G m t) one),
      )

  pub radio_is : floor_in (lent P S' C' M W' T O) ≡ (on_radio (limits_of P) F t c).floor
  unfolding on_radio
  radio_is = rw may.is_head over_is

  -- "4": radio, with the message's initiator, number and text
  pub radio_reports : (on_radio (limits_of P) F t c).report ≡ record { kind = 4; a = i₀; b = n₀; p = p; w = w; q = q; text = text_of T O (rooms_in M) m }
  unfolding on_radio hand_over
  radio_reports =
      rw may.is_head
      (λ i. record { kind = 4; a = i₀; b = n₀; p = sym over_reports.0 i; w = sym over_reports.1 i; q = sym over_reports.2 i; text = text_of T O (rooms_in M) m })
