-- Every event keeps what a reached floor has beside the form rule.
use mathlib.Core.Path.{ap, refl, subst, sym, ◌∙◌, ◌≡◌}
use mathlib.Core.Bool.{◌&&◌, Bool, cond, false, not, true}
use mathlib.Core.Option.{some}
use mathlib.Core.List.{List, ◌∷◌}
use Prim.Native.Nat.{◌<◌, suc, ℕ, ◌≤◌}
use native.Mathlib.Omega.{arith}
use lib.Dec.{eqb, ltb}
use borrow.Author.Tests.{eq-eqb, eqb-false, eqb-true, le-ltb, lt-ltb, ltb-false, ltb-true, ne_eqb, not-true}
use Rattle.protocol.specs.Folds.{update, update2}
use Rattle.protocol.specs.CartSets.{has, minus, set_of, union, with, without}
use Rattle.protocol.specs.Floor.{Floor, Limits, Place, Record, ack_list, at, behead, between, carts_that, delete, deregister, entered, is_buffered, is_local, leaving, local_to, multicast, on_lines, outside, push, put, register, set_groups, set_place, set_steady, set_waiting, station_of, to_every, travelling, set_texts}
use Rattle.protocol.specs.Events.{Done, Event}
use Rattle.protocol.specs.Step.{step}
use Rattle.protocol.specs.Groups.{on_group}
use Rattle.protocol.specs.Handoff.{arrive, entry_of, on_enter, on_flag, on_move, on_register, on_retire, room_of, row_of, struck}
use Rattle.protocol.specs.Wired.{add_acks, buffer, handle, is_queued, is_struck, local_row, multicast_by_row, on_ack_list, on_delete, on_multicast, passes_over, raise_expected, with_message, unbuffer}
use Rattle.protocol.specs.Wireless.{all_acked, hand_over, receive, send_acks, send_acks_if_all}
use Rattle.protocol.specs.Deregister.{buffered_rooms, is_complete, leave, on_deregister}
use Rattle.protocol.specs.Form.{acks_of, acks_to, bit, count_line, deregistering, handoff_of, handoffs, is_delete_of, multicast_numbers, registering}
use Rattle.protocol.proofs.Tests.{and-false, and_intro, and_left, and_right, both_equal, by_eq, by_lt, by_test, clash, eqb_self, not_both_equal, on_cond, on_option, on_update, on_update2, or_cases, or_right, same_test, update2_at}
use Rattle.protocol.proofs.SetLaws.{has_minus, has_set_of, has_some, has_with, has_without, has_zero, member_below, set_of_member}
use Rattle.protocol.proofs.FloorLaws.{at_home, at_is, local_one, outside_is}
use Rattle.protocol.proofs.InOrder.{EachOf, acks_after, all_acked_same, among, completed, copy_after, deregister_splits, each_map, handed_off, in_order_among, send_each_head, send_each_is, send_each, those_among}
use Rattle.protocol.proofs.Accepted.{MayMove, MayRadio, MayRetire, MaySend, MayWire, by_step, named_has_entered, unlined}
use Rattle.protocol.proofs.Invariant.{Held, History, Invariant}
use Rattle.protocol.proofs.Updates.{counts_up_le}
use Rattle.protocol.proofs.CatchUp.{arrive_at_once, catch_up_at_once, one_at_once, room_none, room_some}
use Rattle.protocol.proofs.HandoffSteps.{deregistering_is, registering_is, row_is_next, same_row}
use Rattle.protocol.proofs.DeregisterStep.{all_go, completed_distinct}
use Rattle.protocol.proofs.Counting.{count_at, count_line_more, on_lines_head}
use Rattle.protocol.proofs.LineFacts.{HeldRecord, LineFacts}
use Rattle.protocol.proofs.SumRun.{initiator_on_floor}
use Rattle.protocol.proofs.PotentialSteps.{acks_added_stay, acks_unlined, count_lines_put_more, receive_acks_stay}
use Rattle.protocol.proofs.Live.{ListsWait, Live, acks_sent_live, acks_sent_wait, acked_wait, behead_deletes, catch_up_live, caught_up_wait, lines_wait, never, not_complete, put_deletes, put_live, send_each_live, send_each_wait, unlined_live, waits_for}

-- a local cart has entered
pub local_entered : (p : Place) (t : ℕ) → local_to p t ≡ true → entered p ≡ true
local_entered outside t e = clash false e refl
local_entered (at s) t e = refl
local_entered (leaving s u) t e = refl
local_entered (travelling s u) t e = refl

-- the row of the local carts says yes for them and for no other number: a local cart is one of the floor's
row_is_right : (M : Limits) (F : Floor) (G : History) → Invariant M F G → (t c : ℕ) → has (local_row F t) c ≡ is_local F t c
row_is_right M F G I t c =
    same_test (has (local_row F t) c) (is_local F t c)
    (λ e. set_of_member F.carts (is_local F t) c e)
    (λ e. has_set_of F.carts (is_local F t) c (I.real c (local_entered (F.place c) t e)) ∙ e)

-- MULTICAST: message n of s, in room m, at t, by the row of the local carts
module _ (M : Limits) (F : Floor) (G : History) (s t n : ℕ) (l : List Record) (e : F.lines s t ≡ multicast n ∷ l) (ls : s < F.stations) (lt : t < F.stations) (I : Invariant M F G)
    (L : Live M F never) (W : ListsWait M F) (local : ℕ) (row_right : (c : ℕ) → has local c ≡ is_local F t c) (m : ℕ) (f : room_of M F s n ≡ some m) where
  H : Held M F.waiting m
  H = (room_some M F s n m f).0

  is_i : F.initiator m ≡ s
  is_i = (room_some M F s n m f).1.0

  is_n : F.number m ≡ n
  is_n = (room_some M F s n m f).1.1

  is_expected : n ≡ F.expected t s
  is_expected = (rw e at (I.run s t lt)).0

  Lp : Live M (unlined F s t) never
  Lp = unlined_live M F never s t (multicast n) l e ls lt (λ n c. refl) (λ n. refl) L

  -- a held message with this number of this initiator is this one
  is_this : (k : ℕ) → Held M F.waiting k → F.initiator k ≡ s → F.number k ≡ n → k ≡ m
  is_this k h a b = I.one_room k m h H (a ∙ sym is_i) (b ∙ sym is_n)

  X : ℕ → ℕ → ℕ
  X = λ c u. cond (eqb u s && passes_over F local m s n c) (suc n) (F.next c u)

  E : ℕ → ℕ → ℕ
  E = update2 F.expected t s (suc (F.expected t s))

  -- a property of the raised number
  on_X : (P : ℕ → Type 0) (c u : ℕ) → (u ≡ s → is_local F t c ≡ true → F.next c s ≡ n → has (F.named m) c ≡ false → P (suc n))
      → ((u ≡ s → passes_over F local m s n c ≡ true → ⊥) → P (F.next c u)) → P (X c u)
  unfolding X
  on_X P c u p q =
      on_cond P (eqb u s && passes_over F local m s n c)
      (λ b. let o = and_right (eqb u s) (passes_over F local m s n c) b in
      let o' = and_right (has local c) (eqb (F.next c s) n && not (has (F.named m) c)) o in
      p (eqb-true u s (and_left (eqb u s) (passes_over F local m s n c) b)) (sym (row_right c) ∙ and_left (has local c) (eqb (F.next c s) n && not (has (F.named m) c)) o)
      (eqb-true (F.next c s) n (and_left (eqb (F.next c s) n) (not (has (F.named m) c)) o')) (not-true (has (F.named m) c) (and_right (eqb (F.next c s) n) (not (has (F.named m) c)) o')))
      (λ b. q (λ z o. clash (eqb u s && passes_over F local m s n c) (and_intro (eqb u s) (passes_over F local m s n c) (eq-eqb u s z) o) b))

  up : (u i : ℕ) → F.expected u i ≤ E u i
  unfolding E
  up u i = on_update2 (λ x. F.expected u i ≤ x) F.expected t s (suc (F.expected t s)) u i (λ a b. rw (a, b) (omega arith)) (λ a. omega arith)

  at_this : E t s ≡ suc n
  unfolding E
  at_this = update2_at F.expected t s (suc (F.expected t s)) ∙ (let z = is_expected in omega arith)

  elsewhere : (u i : ℕ) → (u ≡ t → i ≡ s → ⊥) → E u i ≡ F.expected u i
  unfolding E
  elsewhere u i ne = on_update2 (λ x. x ≡ F.expected u i) F.expected t s (suc (F.expected t s)) u i (λ a b. absurd (ne a b)) (λ a. refl)

  -- what has come was there, but for this message
  come_before : (k u : ℕ) → Held M F.waiting k → (k ≡ m → u ≡ t → ⊥) → F.number k < E u (F.initiator k)
      → F.number k < F.expected u (F.initiator k)
  come_before k u h ne p =
      by_eq u t
      (λ a. by_eq (F.initiator k) s
      (λ b. by_eq (F.number k) n
      (λ d. absurd (ne (is_this k h b d) a))
      (λ d. let z : F.number k < suc n = rw (a, b, at_this) at p in let y = is_expected in rw (a, b) (omega arith)))
      (λ b. rw (elsewhere u (F.initiator k) (λ x y. b y)) at p))
      (λ a. rw (elsewhere u (F.initiator k) (λ x y. a x)) at p)

  -- what a cart is past it was past, but for this message, which does not name a cart that passes it over
  past_before : (k c : ℕ) → Held M F.waiting k → (k ≡ m → has (F.named k) c ≡ true) → F.number k < X c (F.initiator k)
      → F.number k < F.next c (F.initiator k)
  past_before k c h nm =
      on_X (λ x. F.number k < x → F.number k < F.next c (F.initiator k)) c (F.initiator k)
      (λ a home due off p.
      by_eq (F.number k) n
      (λ d. let z = is_this k h a d in clash (has (F.named m) c) (let y = nm z in rw z at y) off)
      (λ d. rw a (omega arith)))
      (λ a p. p)

  Q : ℕ → ℕ → ℕ
  Q = update2 F.queue m t (carts_that F (is_queued F local m s n))

  C : ℕ → ℕ → ℕ
  C = update2 F.copy m t (minus (F.named m) (carts_that F (is_struck F local m s n)))

  other_entry : (k u c : ℕ) → (k ≡ m → u ≡ t → ⊥) → has (F.queue k u) c ≡ true → has (Q k u) c ≡ true
  unfolding Q
  other_entry k u c ne q = on_update2 (λ x. has x c ≡ true) F.queue m t (carts_that F (is_queued F local m s n)) k u (λ a b. absurd (ne a b)) (λ a. q)

  -- a local cart at the number of this message, and not passing it over, is queued
  queued_now : (c : ℕ) → local_to (F.place c) t ≡ true → F.next c s ≡ n → (passes_over F local m s n c ≡ true → ⊥) → has (Q m t) c ≡ true
  unfolding Q
  queued_now c home due ne =
      let nm : has (F.named m) c ≡ true =
      by_test (has (F.named m) c) (λ q. q) (λ q. absurd (ne (rw (row_right c ∙ home, eq-eqb (F.next c s) n due, q)))) in
      rw (update2_at F.queue m t (carts_that F (is_queued F local m s n)))
      (has_set_of F.carts (is_queued F local m s n) c (I.real c (local_entered (F.place c) t home)) ∙ rw (row_right c ∙ home, eq-eqb (F.next c s) n due, nm))

  behind : (c u i : ℕ) → local_to (F.place c) u ≡ true → X c i < E u i → (k : ℕ) × (has (Q k u) c ≡ true) × (F.initiator k ≡ i)
  behind c u i home =
      on_X (λ x. x < E u i → (k : ℕ) × (has (Q k u) c ≡ true) × (F.initiator k ≡ i)) c i
      (λ a here due off p. absurd (let is_u = local_one (F.place c) u t home here in let z : suc n < suc n = rw (is_u, a, at_this) at p in omega arith))
      (λ ne p.
      by_lt (F.next c i) (F.expected u i)
      (λ q. let r = L.behind_queued c u i refl home q in (
        r.0,
        other_entry r.0 u c
            (λ a b. let due = (I.queues r.0 u c r.1).due in
            let due' : F.next c s ≡ n = rw (a, is_i, is_n) at due in
            let is_s : s ≡ i = sym is_i ∙ (let z = r.2 in rw a at z) in
            let q' : F.next c s < F.expected t s = rw (b, ← is_s) at q in
            let z = is_expected in omega arith) r.1,
        r.2,
      ))
      (λ q.
      by_eq u t
      (λ a. by_eq i s
      (λ b. let z : F.next c s < suc n = rw (a, b, at_this) at p in
      let q' : F.expected t s ≤ F.next c s = rw (a, b) at q in
      let y = is_expected in
      (m, rw a (queued_now c (rw a at home) (omega arith) (ne b)), is_i ∙ sym b))
      (λ b. absurd (let z = elsewhere u i (λ x y. b y) in omega arith)))
      (λ a. absurd (let z = elsewhere u i (λ x y. a x) in omega arith))))

  pub multicast_live : Live M (raise_expected (buffer (unlined F s t) local m t s n) t s) never
  unfolding X E Q C buffer
  multicast_live =
      record {
        queue_come = λ k u c.
            on_update2 (λ x. has x c ≡ true → F.number k < E u (F.initiator k)) F.queue m t (carts_that F (is_queued F local m s n)) k u
            (λ a b q. rw (a, b, is_i, is_n, at_this) (omega arith))
            (λ a q. let z = L.queue_come k u c q in let y = up u (F.initiator k) in omega arith);
        acks_come = λ k u c h lu q. let z = L.acks_come k u c h lu q in let y = up u (F.initiator k) in omega arith;
        behind_queued = λ c u i q home p. behind c u i home p;
        passed_listed = λ k u c h lu b home.
            on_update2 (λ x. has x c ≡ true → F.number k < X c (F.initiator k) → has (F.acks k u) c ≡ true) F.copy m t (minus (F.named m) (carts_that F (is_struck F local m s n))) k u
            (λ x y q p. absurd
            (let w = sym (has_minus (F.named m) (carts_that F (is_struck F local m s n)) c) ∙ q in
            let nm = and_left (has (F.named m) c) (not (has (carts_that F (is_struck F local m s n)) c)) w in
            let off = not-true (has (carts_that F (is_struck F local m s n)) c) (and_right (has (F.named m) c) (not (has (carts_that F (is_struck F local m s n)) c)) w) in
            let past = past_before k c h (λ z. rw z nm) p in
            let past' : n < F.next c s = rw (x, is_i, is_n) at past in
            let home' : local_to (F.place c) t ≡ true = rw y at home in
            clash (has (carts_that F (is_struck F local m s n)) c)
            (has_set_of F.carts (is_struck F local m s n) c (I.real c (local_entered (F.place c) t home')) ∙ rw (row_right c ∙ home', lt-ltb n (F.next c s) past', nm)) off))
            (λ x q p.
            let w = and_left (has (F.waiting k) u) (ltb (F.number k) (E u (F.initiator k))) b in
            let come = come_before k u h x (ltb-true (F.number k) (E u (F.initiator k)) (and_right (has (F.waiting k) u) (ltb (F.number k) (E u (F.initiator k))) b)) in
            let nm = I.within k u c h lu q in
            L.passed_listed k u c h lu (and_intro (has (F.waiting k) u) (ltb (F.number k) (F.expected u (F.initiator k))) w (lt-ltb (F.number k) (F.expected u (F.initiator k)) come)) home q
            (past_before k c h (λ z. nm) p));
        passed_acks = λ k c h nm p. Lp.passed_acks k c h nm (past_before k c h (λ z. nm) p);
        named_entered = L.named_entered;
        deletes_come = Lp.deletes_come;
      }

  pub multicast_waits : ListsWait M (raise_expected (buffer (unlined F s t) local m t s n) t s)
  unfolding buffer
  multicast_waits k u c h lu q =
      by_test (eqb k m && eqb u t)
      (λ b. let z = both_equal k m u t b in
      absurd (let y = L.acks_come k u c h lu q in let y' : n < F.expected t s = rw (z.0, z.1, is_i, is_n) at y in let w = is_expected in omega arith))
      (λ b. all_acked_same F (raise_expected (buffer (unlined F s t) local m t s n) t s) k u refl refl (rw b) refl ∙ W k u c h lu q)

-- ACK LIST
module _ (M : Limits) (F : Floor) (G : History) (I : Invariant M F G) (X : LineFacts M F) (L : Live M F never) (W : ListsWait M F)
    (i s n set : ℕ) (l : List Record) (may : MayWire F i s (ack_list n set) l) (m : ℕ) (h : Held M F.waiting m) (is_i : F.initiator m ≡ s) (is_n : F.number m ≡ n) where
  -- the deletes that were on their way
  old_deletes : (k u : ℕ) → (k ≡ m → ⊥) → Held M F.waiting k → u < F.stations → update F.acked m (union (F.acked m) set) k ≡ F.named k
      → has (F.waiting k) u ≡ true
      → 0 < count_line (is_delete_of (F.number k)) (behead i s F.lines (F.initiator k) u)
  old_deletes k u ne hk lu e w =
      let z = behead_deletes (F.number k) i s (F.initiator k) u F.lines (ack_list n set) l may.line refl in
      let y = L.deletes_come k u hk lu (rw (ne_eqb k m ne) at e) w in
      omega arith

  added_live : ((u : ℕ) → u < F.stations → union (F.acked m) set ≡ F.named m → 0 < count_line (is_delete_of (F.number m)) (behead i s F.lines (F.initiator m) u)) → Live M (add_acks (unlined F i s) m set) never
  added_live D =
      record {
        passed_acks = λ k c hk nm p. acks_added_stay M F G I X i s n set l may m h is_i is_n k c hk (L.passed_acks k c hk nm p);
        deletes_come = λ k u hk lu e w.
            by_eq k m
            (λ z. rw z (D u lu (rw (z, eqb_self m) at e)))
            (λ z. old_deletes k u z hk lu e w);
        queue_come = L.queue_come;
        acks_come = L.acks_come;
        behind_queued = L.behind_queued;
        passed_listed = L.passed_listed;
        named_entered = L.named_entered;
      }

  deletes_live : Live M (push (add_acks (unlined F i s) m set) (to_every F.stations s) (delete n)) never
  deletes_live =
      let on = to_every F.stations s in
      record {
        passed_acks = λ k c hk nm p.
            let a = acks_added_stay M F G I X i s n set l may m h is_i is_n k c hk (L.passed_acks k c hk nm p) in
            let b = count_lines_put_more F.stations (acks_to (F.initiator k) (F.number k) c) on (delete n) (behead i s F.lines) in omega arith;
        deletes_come = λ k u hk lu e w.
            by_eq k m
            (λ z. let y = count_line_more (is_delete_of n) (behead i s F.lines s u) (delete n) in
            let v : bit (eqb n n) ≡ 1 = rw (eqb_self n) in
            rw (z, is_i, is_n, eqb_self s, lt-ltb u F.stations lu) (omega arith))
            (λ z. let a = old_deletes k u z hk lu e w in let b = put_deletes (F.number k) on (delete n) (behead i s F.lines) (F.initiator k) u in omega arith);
        queue_come = L.queue_come;
        acks_come = L.acks_come;
        behind_queued = L.behind_queued;
        passed_listed = L.passed_listed;
        named_entered = L.named_entered;
      }

-- DELETE: of message n of i, in room m, at j
module _ (M : Limits) (F : Floor) (G : History) (I : Invariant M F G) (L : Live M F never) (W : ListsWait M F)
    (i j n : ℕ) (l : List Record) (may : MayWire F i j (delete n) l) (m : ℕ) (h : Held M F.waiting m) (is_i : F.initiator m ≡ i) (is_n : F.number m ≡ n) where
  Less : ℕ → ℕ
  Less = update F.waiting m (without (F.waiting m) j)

  still : (k : ℕ) → Held M Less k → Held M F.waiting k
  unfolding Less
  still k hk = by_eq k m (λ z. rw z h) (λ z. record { slot = hk.slot; some = (let y = hk.some in rw (ne_eqb k m z) at y) })

  waited : (k u : ℕ) → has (Less k) u ≡ true → (has (F.waiting k) u ≡ true) × (k ≡ m → u ≡ j → ⊥)
  unfolding Less
  waited k u =
      on_update (λ x. has x u ≡ true → (has (F.waiting k) u ≡ true) × (k ≡ m → u ≡ j → ⊥)) F.waiting m (without (F.waiting m) j) k
      (λ z e. let q = sym (has_without (F.waiting m) j u) ∙ e in
      (rw z (and_left (has (F.waiting m) u) (not (eqb j u)) q), λ a b. eqb-false j u (not-true (eqb j u) (and_right (has (F.waiting m) u) (not (eqb j u)) q)) (sym b)))
      (λ z e. (e, λ a b. z a))

  delete_live : (x : ℕ → List ℕ) → Live M (set_texts (set_waiting (unlined F i j) Less) x) never
  delete_live x =
      record {
        acks_come = λ k u c hk. L.acks_come k u c (still k hk);
        passed_listed = λ k u c hk lu b. L.passed_listed k u c (still k hk) lu
            (let p = and_left (has (Less k) u) (ltb (F.number k) (F.expected u (F.initiator k))) b in
            let q = and_right (has (Less k) u) (ltb (F.number k) (F.expected u (F.initiator k))) b in
            and_intro (has (F.waiting k) u) (ltb (F.number k) (F.expected u (F.initiator k))) (waited k u p).0 q);
        passed_acks = λ k c hk nm p. let a = L.passed_acks k c (still k hk) nm p in
            let z = acks_unlined M F i j (delete n) l may.line may.from may.to (λ n c. refl) k c in omega arith;
        named_entered = λ k c hk. L.named_entered k c (still k hk);
        deletes_come = λ k u hk lu e w.
            let v = waited k u w in
            let a = L.deletes_come k u (still k hk) lu e v.0 in
            by_test (eqb i (F.initiator k) && eqb j u)
            (λ q. let z = both_equal i (F.initiator k) j u q in
            let off : is_delete_of (F.number k) (delete n) ≡ false =
            ne_eqb n (F.number k) (λ y. v.1 (I.one_room k m (still k hk) h (sym z.0 ∙ sym is_i) (sym y ∙ sym is_n)) (sym z.1)) in
            let b = behead_deletes (F.number k) i j (F.initiator k) u F.lines (delete n) l may.line off in omega arith)
            (λ q. rw q a);
        queue_come = L.queue_come;
        behind_queued = L.behind_queued;
      }

  delete_waits : (x : ℕ → List ℕ) → ListsWait M (set_texts (set_waiting (unlined F i j) Less) x)
  unfolding all_acked
  delete_waits x k u c hk lu q = W k u c (still k hk) lu q

-- THE HAND-OFF of a deregister: cart c leaves t for i
module _ (M : Limits) (F : Floor) (i t c : ℕ) (is_p : F.place c ≡ leaving t i) (L : Live M F never) where
  handed_off_live : Live M (handed_off M F i t c) never
  unfolding leave
  handed_off_live =
      let P = update F.place c (travelling t i) in
      let x = register c (row_of M (F.next c)) in
      record {
        queue_come = λ m u d.
            on_cond (λ y. has y d ≡ true → F.number m < F.expected u (F.initiator m)) (eqb u t)
            (λ b e. L.queue_come m u d (and_left (has (F.queue m u) d) (not (eqb c d)) (sym (has_without (F.queue m u) c d) ∙ e)))
            (λ b e. L.queue_come m u d e);
        behind_queued = λ d u s q.
            on_update (λ p. local_to p u ≡ true → F.next d s < F.expected u s → (m : ℕ) × (has (cond (eqb u t) (without (F.queue m u) c) (F.queue m u)) d ≡ true) × (F.initiator m ≡ s)) F.place c (travelling t i) d
            (λ z e. clash false e refl)
            (λ z home b. let r = L.behind_queued d u s q home b in (
              r.0,
              on_cond (λ y. has y d ≡ true) (eqb u t)
                  (λ o. has_without (F.queue r.0 u) c d ∙ and_intro (has (F.queue r.0 u) d) (not (eqb c d)) r.1 (ap not (ne_eqb c d (λ y. z (sym y)))))
                  (λ o. r.1),
              r.2,
            ));
        passed_listed = λ m u d h lu b.
            on_update (λ p. local_to p u ≡ true → has (F.copy m u) d ≡ true → F.number m < F.next d (F.initiator m) → has (F.acks m u) d ≡ true) F.place c (travelling t i) d
            (λ z e. clash false e refl) (λ z. L.passed_listed m u d h lu b);
        passed_acks = λ m d h n p. let a = L.passed_acks m d h n p in
            let b = count_lines_put_more F.stations (acks_to (F.initiator m) (F.number m) d) (between t i) x F.lines in omega arith;
        named_entered = λ m d h n. on_update (λ p. entered p ≡ true) F.place c (travelling t i) d (λ z. refl) (λ z. L.named_entered m d h n);
        deletes_come = λ m u h lu e w. let a = L.deletes_come m u h lu e w in
            let b = put_deletes (F.number m) (between t i) x F.lines (F.initiator m) u in omega arith;
        acks_come = L.acks_come;
      }

  -- the lists at the other stations wait as before; those at t, if they are not complete without the cart
  handed_off_waits : ListsWait M F → ((m d : ℕ) → Held M F.waiting m → has (F.acks m t) d ≡ true → all_acked (leave F i t c) m t ≡ false)
      → ListsWait M (handed_off M F i t c)
  unfolding leave
  handed_off_waits W T m u d h lu q =
      by_eq u t
      (λ z. rw z (all_acked_same (leave F i t c) (handed_off M F i t c) m t refl refl refl refl ∙ T m d h (rw z at q)))
      (λ z. let r = waits_for F m u (W m u d h lu q) in
      let ne : r.0 ≡ c → ⊥ = λ y. z (sym (eqb-true t u (let o = r.2 in rw (y, is_p) at o))) in
      not_complete (handed_off M F i t c) m u r.0 r.1 (rw (ne_eqb r.0 c ne) r.2) r.3 r.4)

-- a message with an ack list at a station is buffered there
pub listed_buffered : (M : Limits) (F : Floor) → LineFacts M F → Live M F never → (m t d : ℕ) → Held M F.waiting m → t < F.stations
    → has (F.acks m t) d ≡ true → is_buffered F m t ≡ true
listed_buffered M F X L m t d h lt e =
    let w : has (F.waiting m) t ≡ true =
    by_test (has (F.waiting m) t) (λ q. q)
    (λ q. absurd (let a = X.deleted_acked m t h lt q in
    let k = count_at F.stations (λ u. has (F.acks m u) d) t lt e in
    let nm = X.within m d h (omega arith) in
    let b : bit (has (F.acked m) d) ≡ 1 = rw (a, nm) in
    let o = X.acks_once m d h in omega arith)) in
    and_intro (has (F.waiting m) t) (ltb (F.number m) (F.expected t (F.initiator m))) w (lt-ltb (F.number m) (F.expected t (F.initiator m)) (L.acks_come m t d h lt e))

-- DEREGISTER
module _ (M : Limits) (F : Floor) (G : History) (I : Invariant M F G) (X : LineFacts M F) (L : Live M F never) (W : ListsWait M F)
    (i t c : ℕ) (l : List Record) (may : MayWire F i t (deregister c) l) where
  rooms : List ℕ
  rooms = completed M (unlined F i t) i t c

  is_p : F.place c ≡ leaving t i
  is_p =
      let z : deregistering ∷ handoffs c l ≡ handoff_of (F.place c) i t (row_of M (F.next c)) = rw (may.line, eqb_self c) at (I.handoffs_right c i t) in
      (deregistering_is (F.place c) i t (row_of M (F.next c)) (handoffs c l) z).0

  initiators_on_floor : EachOf (λ m. F.initiator m < F.stations) rooms
  unfolding rooms
  initiators_on_floor = each_map rooms (λ m g. initiator_on_floor M F G I m g.held) (all_go M F G i t c (behead i t F.lines) may.to I)

  -- a list that has not gone is not complete
  not_gone : (m d : ℕ) → Held M F.waiting m → has ((send_each F t rooms).acks m t) d ≡ true
      → (among m rooms ≡ false) × (all_acked (leave (unlined F i t) i t c) m t ≡ false)
  unfolding rooms completed buffered_rooms is_complete leave
  not_gone m d h e =
      let e' : has (cond (eqb t t && among m rooms) 0 (F.acks m t)) d ≡ true = rw (acks_after F t rooms m t) at e in
      by_test (among m rooms)
      (λ q. let e'' : has 0 d ≡ true = rw (eqb_self t, q) at e' in clash (has 0 d) e'' (has_zero d))
      (λ q. let e'' : has (F.acks m t) d ≡ true = rw (eqb_self t, q) at e' in
      let b = listed_buffered M F X L m t d h may.to e'' in
      let some = has_some (F.acks m t) d e'' in
      let z = sym (those_among (is_complete (leave (unlined F i t) i t c) t) (buffered_rooms M (unlined F i t) t) m ∙ ap (λ (x : Bool). x && is_complete (leave (unlined F i t) i t c) t m) (in_order_among (unlined F i t) (λ k. is_buffered F k t) M.held m)) ∙ q in (
        q,
        by_test (all_acked (leave (unlined F i t) i t c) m t)
            (λ y. clash true refl (rw (lt-ltb m M.held h.slot, b, some, y) at z))
            (λ y. y),
      ))

  F1 : Floor
  F1 = send_each F t rooms

  -- the test once the cart has left, before and after the lists have gone
  left_same : (i t c m : ℕ) → F1.carts ≡ F.carts → F1.place ≡ F.place → F1.copy m t ≡ F.copy m t → F1.acks m t ≡ F.acks m t
      → all_acked (leave (unlined F1 i t) i t c) m t ≡ all_acked (leave (unlined F i t) i t c) m t
  unfolding leave
  left_same i t c m k p y a =
      all_acked_same (leave (unlined F i t) i t c) (leave (unlined F1 i t) i t c) m t k (ap (λ (q : ℕ → Place). update q c (travelling t i)) p) y a

  pub deregister_live : Live M (on_deregister M (unlined F i t) i t c).floor never × ListsWait M (on_deregister M (unlined F i t) i t c).floor
  unfolding rooms F1
  deregister_live =
      let K = send_each_is F t rooms in
      let n : F1.stations ≡ F.stations = ap (λ (Y : Floor). Y.stations) K in
      let li = may.from in
      let lt = may.to in
      let h = send_each_head F t rooms i t (deregister c) l may.line in
      let L1 = send_each_live M F never t rooms lt initiators_on_floor L in
      let L2 : Live M (unlined F1 i t) never = unlined_live M F1 never i t (deregister c) h.0 h.1 (omega arith) (omega arith) (λ n c. refl) (λ n. refl) L1 in
      let p : F1.place c ≡ leaving t i = ap (λ (Y : Floor). Y.place c) K ∙ is_p in
      let W1 : ListsWait M (unlined F1 i t) = lines_wait M F1 (behead i t F1.lines) (send_each_wait M F t rooms W) in
      let T : (m d : ℕ) → Held M F1.waiting m → has (F1.acks m t) d ≡ true → all_acked (leave (unlined F1 i t) i t c) m t ≡ false =
      λ m d hm e.
      let hm' : Held M F.waiting m = subst (λ (Y : ℕ → ℕ). Held M Y m) (ap (λ (Y : Floor). Y.waiting) K) hm in
      let z = not_gone m d hm' e in
      left_same i t c m (ap (λ (Y : Floor). Y.carts) K) (ap (λ (Y : Floor). Y.place) K)
      (copy_after F t rooms (completed_distinct M (unlined F i t) i t c) m t ∙ rw (z.0, and-false (eqb t t))) (acks_after F t rooms m t ∙ rw (z.0, and-false (eqb t t)))
      ∙ z.1 in
      subst (λ (Y : Floor). Live M Y never × ListsWait M Y) (sym (deregister_splits M F i t c l may.line))
      (handed_off_live M (unlined F1 i t) i t c p L2, handed_off_waits M (unlined F1 i t) i t c p L2 W1 T)

-- AN ARRIVAL: the cart, local to no station, is struck from what it has passed, and is at t
module _ (M : Limits) (F : Floor) (G : History) (t c : ℕ) (lt : t < F.stations) (lc : c < F.carts) (nowhere : (u : ℕ) → local_to (F.place c) u ≡ false) (w : ℕ → ℕ → List Record)
    (I : Invariant M F G) (L : Live M (on_lines F w) never) (W : ListsWait M F) where
  P : ℕ → Place
  P = update F.place c (at t)

  is_passed : ℕ → ℕ → Bool
  is_passed m u = eqb u t && (is_buffered F m t && ltb (F.number m) (F.next c (F.initiator m)))

  here : Floor
  unfolding P
  here = set_place (struck (on_lines F w) t c) P

  -- nothing is expected of an initiator that is not on the floor
  none_expected : (s : ℕ) → F.stations ≤ s → F.expected t s ≡ 0
  none_expected s h =
      by_eq (F.expected t s) 0 (λ e. e)
      (λ e. absurd (let a = counts_up_le (F.expected t s) (multicast_numbers (F.lines s t)) (F.sent s) (I.run s t lt) in let b = I.senders s (omega arith) in omega arith))

  in_copy_still : (m u d : ℕ) → has (cond (is_passed m u) (without (F.copy m u) c) (F.copy m u)) d ≡ true → has (F.copy m u) d ≡ true
  in_copy_still m u d =
      on_cond (λ x. has x d ≡ true → has (F.copy m u) d ≡ true) (is_passed m u)
      (λ b e. and_left (has (F.copy m u) d) (not (eqb c d)) (sym (has_without (F.copy m u) c d) ∙ e)) (λ b e. e)

  here_live : Live M here (λ d s. eqb d c && ltb s F.stations)
  unfolding here P is_passed struck
  here_live =
      record {
        behind_queued = λ d u s q.
            on_update (λ p. local_to p u ≡ true → F.next d s < F.expected u s → (m : ℕ) × (has (F.queue m u) d ≡ true) × (F.initiator m ≡ s)) F.place c (at t) d
            (λ z e b. absurd (let y = eqb-true t u e in
            let o : ltb s F.stations ≡ false = rw (z, eqb_self c) at q in
            let v = none_expected s (ltb-false s F.stations o) in
            let b' : F.next d s < F.expected t s = rw (← y) at b in omega arith))
            (λ z home b. L.behind_queued d u s refl home b);
        passed_listed = λ m u d h lu b.
            on_update (λ p. local_to p u ≡ true → has (cond (is_passed m u) (without (F.copy m u) c) (F.copy m u)) d ≡ true → F.number m < F.next d (F.initiator m) → has (F.acks m u) d ≡ true) F.place c (at t) d
            (λ z e y p. let is_t = eqb-true t u e in
            let b' : is_buffered F m t ≡ true = rw (← is_t) at b in
            let p' : F.number m < F.next c (F.initiator m) = rw z at p in
            let y' : has (without (F.copy m t) c) c ≡ true = rw (← is_t, eqb_self t, b', lt-ltb (F.number m) (F.next c (F.initiator m)) p', z) at y in
            clash (not (eqb c c)) (and_right (has (F.copy m t) c) (not (eqb c c)) (sym (has_without (F.copy m t) c c) ∙ y')) (rw (eqb_self c)))
            (λ z home y. L.passed_listed m u d h lu b home (in_copy_still m u d y));
        named_entered = λ m d h n. on_update (λ p. entered p ≡ true) F.place c (at t) d (λ z. refl) (λ z. L.named_entered m d h n);
        queue_come = L.queue_come;
        acks_come = L.acks_come;
        passed_acks = L.passed_acks;
        deletes_come = L.deletes_come;
      }

  here_waits : ListsWait M here
  unfolding here P is_passed struck
  here_waits m u d h lu q =
      let r = waits_for F m u (W m u d h lu q) in
      let ne : r.0 ≡ c → ⊥ = λ y. clash (local_to (F.place c) u) (let o = r.2 in rw y at o) (nowhere u) in
      not_complete here m u r.0 r.1 (rw (ne_eqb r.0 c ne) r.2)
      (on_cond (λ x. has x r.0 ≡ true) (is_passed m u)
      (λ b. has_without (F.copy m u) c r.0 ∙ and_intro (has (F.copy m u) r.0) (not (eqb c r.0)) r.3 (ap not (ne_eqb c r.0 (λ y. ne (sym y)))))
      (λ b. r.3))
      r.4

  -- a message that has come and names the cart, which has yet to receive it, is buffered with the cart in its copy
  held_back : (m : ℕ) → Held M F.waiting m → F.number m < F.expected t (F.initiator m) → has (F.named m) c ≡ true
      → F.next c (F.initiator m) ≤ F.number m
      → (is_buffered F m t ≡ true) × (has (cond (is_passed m t) (without (F.copy m t) c) (F.copy m t)) c ≡ true)
  unfolding is_passed
  held_back m h come nm low =
      let v : has (F.waiting m) t ≡ true = by_test (has (F.waiting m) t) (λ y. y) (λ y. absurd (let z = I.gone m t c h lt y nm in omega arith)) in (
        and_intro (has (F.waiting m) t) (ltb (F.number m) (F.expected t (F.initiator m))) v (lt-ltb (F.number m) (F.expected t (F.initiator m)) come),
        rw (le-ltb (F.number m) (F.next c (F.initiator m)) low, and-false (is_buffered F m t), and-false (eqb t t)) (I.copies m t c h lt come lc nm low),
      )

  arrived_here : Live M (catch_up_at_once M here t c (λ s. ltb s F.stations)) never × ListsWait M (catch_up_at_once M here t c (λ s. ltb s F.stations))
  unfolding here P is_passed struck all_acked
  arrived_here =
      (catch_up_live M here t c (λ s. ltb s F.stations) (rw (eqb_self c)) lt (λ m h o come nm low. held_back m h come nm low) here_live, here_waits)

  pub arrive_live : (row : ℕ → ℕ) → ((s : ℕ) → row s ≡ F.next c s)
      → Live M (arrive M (on_lines F w) t c row) never × ListsWait M (arrive M (on_lines F w) t c row)
  unfolding here P
  arrive_live row er =
      let shape : Floor → Floor = λ Y. catch_up_at_once M (set_place (struck Y t c) (update F.place c (at t))) t c (λ s. ltb s F.stations) in
      subst (λ (Y : Floor). Live M Y never × ListsWait M Y) (sym (arrive_at_once M (on_lines F w) t c row ∙ ap shape (same_row (on_lines F w) c row er))) arrived_here

-- MOVE
move_live : (M : Limits) (F : Floor) (c to : ℕ) → MayMove F c to → Live M F never → ListsWait M F
    → Live M (on_move F c to).floor never × ListsWait M (on_move F c to).floor
unfolding on_move
move_live M F c to may L W =
    let old = station_of (F.place c) in
    let is_p = at_home (F.place c) may.has_entered_lem may.not_moving in
    let H = set_place F (update F.place c (leaving old to)) in
    let before : (d u : ℕ) → local_to (update F.place c (leaving old to) d) u ≡ true → local_to (F.place d) u ≡ true =
    λ d u. on_update (λ p. local_to p u ≡ true → local_to (F.place d) u ≡ true) F.place c (leaving old to) d (λ z e. rw (z, is_p) e) (λ z e. e) in
    let after : (d u : ℕ) → local_to (F.place d) u ≡ true → local_to (update F.place c (leaving old to) d) u ≡ true =
    λ d u e. on_update (λ p. local_to p u ≡ true) F.place c (leaving old to) d (λ z. let e' : local_to (F.place c) u ≡ true = rw z at e in rw is_p at e') (λ z. e) in
    let LH : Live M H never =
    record {
      behind_queued = λ d u s q home. L.behind_queued d u s q (before d u home);
      passed_listed = λ m u d h lu b home. L.passed_listed m u d h lu b (before d u home);
      named_entered = λ m d h n. on_update (λ p. entered p ≡ true) F.place c (leaving old to) d (λ z. refl) (λ z. L.named_entered m d h n);
      queue_come = L.queue_come;
      acks_come = L.acks_come;
      passed_acks = L.passed_acks;
      deletes_come = L.deletes_come;
    } in
    let WH : ListsWait M H = λ m u d h lu q. (let r = waits_for F m u (W m u d h lu q) in not_complete H m u r.0 r.1 (after r.0 u r.2) r.3 r.4) in
    (put_live M H never (between to old) (deregister c) LH, lines_wait M H (put (between to old) (deregister c) F.lines) WH)

-- SEND: into room m
module _ (M : Limits) (F : Floor) (G : History) (s set : ℕ) (text : List ℕ) (m : ℕ) (may : MaySend M F s set text m) (I : Invariant M F G) (L : Live M F never) (W : ListsWait M F) where
  N : ℕ → ℕ
  N = update F.waiting m (set_of F.stations (λ t. true))

  old_held : (k : ℕ) → (k ≡ m → ⊥) → Held M N k → Held M F.waiting k
  unfolding N
  old_held k z h = record { slot = h.slot; some = (let y = h.some in rw (ne_eqb k m z) at y) }

  not_new : (k : ℕ) → Held M F.waiting k → k ≡ m → ⊥
  not_new k h z = clash (eqb (F.waiting m) 0) may.takes.free (let y = h.some in rw z at y)

  -- no acknowledgement of another message moves
  acks_as_before : (k c : ℕ) → (k ≡ m → ⊥) → acks_of M F k c ≤ acks_of M (with_message F m s set text) k c
  unfolding with_message
  acks_as_before k c z =
      let on = to_every F.stations s in
      let x = multicast (F.sent s) in
      let a = count_lines_put_more F.stations (acks_to (F.initiator k) (F.number k) c) on x F.lines in
      rw (ne_eqb k m z) (omega arith)

  send_live : Live M (with_message F m s set text) never
  unfolding with_message N
  send_live =
      record {
        queue_come = λ k u c.
            by_eq k m
            (λ z. rw (z, eqb_self m) (λ e. clash (has 0 c) e (has_zero c)))
            (λ z. rw (ne_eqb k m z) (λ e. L.queue_come k u c e));
        acks_come = λ k u c h lu.
            by_eq k m
            (λ z. rw (z, eqb_self m) (λ e. clash (has 0 c) e (has_zero c)))
            (λ z. rw (ne_eqb k m z) (λ e. L.acks_come k u c (old_held k z h) lu e));
        behind_queued = λ c u i q home b.
            let r = L.behind_queued c u i q home b in
            let z = ne_eqb r.0 m (not_new r.0 (I.queues r.0 u c r.1).held) in
            (r.0, rw z r.1, rw z r.2);
        passed_listed = λ k u c h lu.
            by_eq k m
            (λ z. rw (z, eqb_self m) (λ b home e p. clash (has 0 c) e (has_zero c)))
            (λ z. rw (ne_eqb k m z) (λ b home e p. L.passed_listed k u c (old_held k z h) lu b home e p));
        passed_acks = λ k c h.
            by_eq k m
            (λ z. rw (z, eqb_self m) (λ n p. absurd (let y = I.low c s in omega arith)))
            (λ z n p. let a = acks_as_before k c z in
            let n' : has (F.named k) c ≡ true = rw (ne_eqb k m z) at n in
            let p' : F.number k < F.next c (F.initiator k) = rw (ne_eqb k m z) at p in
            let b = L.passed_acks k c (old_held k z h) n' p' in omega arith);
        named_entered = λ k c h.
            by_eq k m
            (λ z. rw (z, eqb_self m) (λ n. all_entered_lem c n))
            (λ z. rw (ne_eqb k m z) (λ n. L.named_entered k c (old_held k z h) n));
        deletes_come = λ k u h lu.
            by_eq k m
            (λ z. rw (z, eqb_self m) (λ e w. absurd (eqb-false set 0 may.names.some (sym e))))
            (λ z. rw (ne_eqb k m z) (λ e w. let a = L.deletes_come k u (old_held k z h) lu e w in
            let b = put_deletes (F.number k) (to_every F.stations s) (multicast (F.sent s)) F.lines (F.initiator k) u in omega arith));
      }
    where
      all_entered_lem : (c : ℕ) → has set c ≡ true → entered (F.place c) ≡ true
      all_entered_lem c n = named_has_entered F set c (member_below F.carts set c may.names.carts n) may.names.all_entered_lem n

  send_waits : ListsWait M (with_message F m s set text)
  unfolding with_message N
  send_waits k u c h lu =
      by_eq k m
      (λ z. rw (z, eqb_self m) (λ e. clash (has 0 c) e (has_zero c)))
      (λ z. rw (ne_eqb k m z) (λ e. all_acked_same F (with_message F m s set text) k u refl refl (rw (ne_eqb k m z)) (rw (ne_eqb k m z)) ∙ W k u c (old_held k z h) lu e))

-- RADIO: the message in room m to cart c at t
module _ (M : Limits) (F : Floor) (G : History) (m t c : ℕ) (may : MayRadio M F t c m) (I : Invariant M F G) (X : LineFacts M F) (L : Live M F never) (W : ListsWait M F) where
  taken : Held M F.waiting m
  taken = (I.queues m t c may.queued).held

  due : F.next c (F.initiator m) ≡ F.number m
  due = (I.queues m t c may.queued).due

  home_c : local_to (F.place c) t ≡ true
  home_c = (I.queues m t c may.queued).home

  A : ℕ → ℕ → ℕ
  A = update2 F.acks m t (with (F.acks m t) c)

  -- the ack lists only grow
  more : (k u d : ℕ) → has (F.acks k u) d ≡ true → has (A k u) d ≡ true
  unfolding A
  more k u d e =
      on_update2 (λ x. has x d ≡ true) F.acks m t (with (F.acks m t) c) k u
      (λ a b. has_with (F.acks m t) c d ∙ rw (let e' : has (F.acks m t) d ≡ true = rw (a, b) at e in e')) (λ a. e)

  mine : has (A m t) c ≡ true
  unfolding A
  mine = rw (update2_at F.acks m t (with (F.acks m t) c)) (has_with (F.acks m t) c c ∙ or_right (has (F.acks m t) c) (eqb c c) (eqb_self c))

  -- a held message with this number of this initiator is this one
  this : (k : ℕ) → Held M F.waiting k → F.initiator k ≡ F.initiator m → F.number k ≡ F.number m → k ≡ m
  this k h a b = I.one_room k m h taken a b

  -- what the cart is past, but for this message, it was past
  was_past : (k d : ℕ) → d ≡ c → F.initiator k ≡ F.initiator m → (F.number k ≡ F.number m → ⊥) → F.number k < suc (F.number m)
      → F.number k < F.next d (F.initiator k)
  was_past k d a b ne p = rw (a, b) (let z = due in omega arith)

  received_live : Live M (receive F m t c) (λ d u. eqb d c && eqb u (F.initiator m))
  unfolding receive A
  received_live =
      record {
        queue_come = λ k u d.
            on_update2 (λ x. has x d ≡ true → F.number k < F.expected u (F.initiator k)) F.queue m t (without (F.queue m t) c) k u
            (λ a b e. rw (a, b) (L.queue_come m t d (and_left (has (F.queue m t) d) (not (eqb c d)) (sym (has_without (F.queue m t) c d) ∙ e))))
            (λ a e. L.queue_come k u d e);
        acks_come = λ k u d h lu.
            on_update2 (λ x. has x d ≡ true → F.number k < F.expected u (F.initiator k)) F.acks m t (with (F.acks m t) c) k u
            (λ a b e. or_cases (has (F.acks m t) d) (eqb c d) (sym (has_with (F.acks m t) c d) ∙ e)
            (λ q. L.acks_come k u d h lu (rw (a, b) q))
            (λ q. rw (a, b) (L.queue_come m t c may.queued)))
            (λ a e. L.acks_come k u d h lu e);
        behind_queued = λ d u i q home. rw q (λ b.
            let r = L.behind_queued d u i refl home b in (
              r.0,
              on_update2 (λ x. has x d ≡ true) F.queue m t (without (F.queue m t) c) r.0 u
                  (λ y z. has_without (F.queue m t) c d ∙ and_intro (has (F.queue m t) d) (not (eqb c d)) (let e = r.1 in rw (y, z) at e)
                  (by_eq c d (λ w. clash (eqb d c && eqb i (F.initiator m)) (and_intro (eqb d c) (eqb i (F.initiator m)) (eq-eqb d c (sym w)) (eq-eqb i (F.initiator m) (sym r.2 ∙ rw y))) q) (λ w. ap not (ne_eqb c d w))))
                  (λ y. r.1),
              r.2,
            ));
        passed_listed = λ k u d h lu b home y.
            on_update2 (λ x. F.number k < x → has (A k u) d ≡ true) F.next c (F.initiator m) (suc (F.number m)) d (F.initiator k)
            (λ a i p. by_eq (F.number k) (F.number m)
            (λ z. let is_m = this k h i z in
            let is_t : u ≡ t = local_one (F.place c) u t (rw a at home) home_c in
            rw (is_m, is_t, a) mine)
            (λ z. more k u d (L.passed_listed k u d h lu b home y (was_past k d a i z p))))
            (λ a p. more k u d (L.passed_listed k u d h lu b home y p));
        passed_acks = λ k d h n.
            on_update2 (λ x. F.number k < x → 0 < acks_of M (receive F m t c) k d) F.next c (F.initiator m) (suc (F.number m)) d (F.initiator k)
            (λ a i p. by_eq (F.number k) (F.number m)
            (λ z. let is_m = this k h i z in
            rw (is_m, a) (let v = count_at F.stations (λ u. has (A m u) c) t may.station mine in omega arith))
            (λ z. let v = L.passed_acks k d h n (was_past k d a i z p) in let w = receive_acks_stay M F G I X m t c k d in omega arith))
            (λ a p. let v = L.passed_acks k d h n p in let w = receive_acks_stay M F G I X m t c k d in omega arith);
        named_entered = L.named_entered;
        deletes_come = L.deletes_come;
      }

  -- every other list waits as before
  others_wait : (k u d : ℕ) → (k ≡ m → u ≡ t → ⊥) → Held M F.waiting k → u < F.stations → has (A k u) d ≡ true
      → all_acked (receive F m t c) k u ≡ false
  unfolding receive A
  others_wait k u d ne h lu e =
      let same : A k u ≡ F.acks k u = on_update2 (λ x. x ≡ F.acks k u) F.acks m t (with (F.acks m t) c) k u (λ a b. absurd (ne a b)) (λ a. refl) in
      all_acked_same F (receive F m t c) k u refl refl refl same ∙ W k u d h lu (rw same at e)

  D : Floor
  D = send_acks_if_all (receive F m t c) m t

  D-live : Live M D (λ d u. eqb d c && eqb u (F.initiator m))
  unfolding D receive
  D-live =
      on_cond (λ (Y : Floor). Live M Y (λ d u. eqb d c && eqb u (F.initiator m))) (all_acked (receive F m t c) m t)
      (λ e. acks_sent_live M (receive F m t c) (λ d u. eqb d c && eqb u (F.initiator m)) m t may.station (initiator_on_floor M F G I m taken) received_live)
      (λ e. received_live)

  D-waits : ListsWait M D
  unfolding D receive A
  D-waits =
      on_cond (λ (Y : Floor). ListsWait M Y) (all_acked (receive F m t c) m t)
      (λ e. acks_sent_wait M (receive F m t c) m t others_wait)
      (λ e k u d h lu q. by_test (eqb k m && eqb u t)
      (λ b. let z = both_equal k m u t b in rw (z.0, z.1) e)
      (λ b. others_wait k u d (not_both_equal k m u t b) h lu q))

  -- what catch-up may not pass over
  abbrev Ready : Floor → Type 0
  Ready Y = (k : ℕ) → Held M Y.waiting k → eqb (Y.initiator k) (F.initiator m) ≡ true → Y.number k < Y.expected t (Y.initiator k) → has (Y.named k) c ≡ true → Y.next c (Y.initiator k) ≤ Y.number k
      → (is_buffered Y k t ≡ true) × (has (Y.copy k t) c ≡ true)

  ready : Ready D
  unfolding D receive send_acks
  ready =
      on_cond Ready (all_acked (receive F m t c) m t)
      (λ e k h i come nm low. let z = facts k h (eqb-true (F.initiator k) (F.initiator m) i) come nm low in (z.0, rw (ne_eqb k m z.1.0) z.1.1))
      (λ e k h i come nm low. let z = facts k h (eqb-true (F.initiator k) (F.initiator m) i) come nm low in (z.0, z.1.1))
    where
      facts : (k : ℕ) → Held M F.waiting k → F.initiator k ≡ F.initiator m → F.number k < F.expected t (F.initiator k)
          → has (F.named k) c ≡ true
          → update2 F.next c (F.initiator m) (suc (F.number m)) c (F.initiator k) ≤ F.number k
          → (is_buffered F k t ≡ true) × ((k ≡ m → ⊥) × (has (F.copy k t) c ≡ true))
      facts k h i come nm low =
          let low' : suc (F.number m) ≤ F.number k = rw (i, eqb_self c, eqb_self (F.initiator m)) at low in
          let low'' : F.next c (F.initiator k) ≤ F.number k = (let z = due in let y : F.next c (F.initiator k) ≡ F.next c (F.initiator m) = rw i in omega arith) in
          let v : has (F.waiting k) t ≡ true = by_test (has (F.waiting k) t) (λ y. y) (λ y. absurd (let z = I.gone k t c h may.station y nm in omega arith)) in (
            and_intro (has (F.waiting k) t) (ltb (F.number k) (F.expected t (F.initiator k))) v (lt-ltb (F.number k) (F.expected t (F.initiator k)) come),
            ((λ z. let y : F.number k ≡ F.number m = rw z in omega arith), I.copies k t c h may.station come may.cart nm low''),
          )

  same_place : D.place c ≡ at t
  unfolding D receive send_acks
  same_place = on_cond (λ (Y : Floor). Y.place c ≡ at t) (all_acked (receive F m t c) m t) (λ e. at_is (F.place c) t may.is_at_lem) (λ e. at_is (F.place c) t may.is_at_lem)

  same_stations : t < D.stations
  unfolding D receive send_acks
  same_stations = on_cond (λ (Y : Floor). t < Y.stations) (all_acked (receive F m t c) m t) (λ e. may.station) (λ e. may.station)

  pub radio_live : Live M (hand_over M F m t c).floor never × ListsWait M (hand_over M F m t c).floor
  unfolding hand_over D
  radio_live =
      rw (one_at_once M D t c (F.initiator m))
      (catch_up_live M D t c (λ u. eqb u (F.initiator m)) same_place same_stations ready D-live, caught_up_wait M D t c (λ u. eqb u (F.initiator m)) D-waits)

-- FLAGS AND GROUPS, of which no clause speaks
unspoken_live : (M : Limits) (F : Floor) (flags : ℕ → Bool) (groups : ℕ → ℕ) → Live M F never → ListsWait M F
    → Live M (set_groups (set_steady F flags) groups) never × ListsWait M (set_groups (set_steady F flags) groups)
unfolding all_acked
unspoken_live M F flags groups L W = (
  record {
    queue_come = L.queue_come;
    acks_come = L.acks_come;
    behind_queued = L.behind_queued;
    passed_listed = L.passed_listed;
    passed_acks = L.passed_acks;
    named_entered = L.named_entered;
    deletes_come = L.deletes_come;
  },
  W,
)

-- RETIRE: cart c is local to no station, and no held message names it
retired_live : (M : Limits) (F : Floor) (G : History) (c : ℕ) → MayRetire M F c → Invariant M F G → Live M F never → ListsWait M F → Live M
    (on_retire F c).floor never × ListsWait M (on_retire F c).floor
unfolding on_retire
retired_live M F G c may I L W =
    let P = update F.place c outside in
    let home : (d u : ℕ) → local_to (P d) u ≡ true → (d ≡ c → ⊥) × (local_to (F.place d) u ≡ true) =
    λ d u. on_update (λ p. local_to p u ≡ true → (d ≡ c → ⊥) × (local_to (F.place d) u ≡ true)) F.place c outside d (λ z e. clash false e refl)
    (λ z e. (z, e)) in
    let not_c : (m d : ℕ) → Held M F.waiting m → has (F.named m) d ≡ true → d ≡ c → ⊥ = λ m d h n z. may.unnamed m h.slot h.some
    (rw z at n) in (
      record {
        queue_come = L.queue_come;
        acks_come = L.acks_come;
        behind_queued = λ d u s q e. let w = home d u e in rw (ne_eqb d c w.0) (λ b. L.behind_queued d u s q w.1 b);
        passed_listed = λ m u d h lu b e. let w = home d u e in rw (ne_eqb d c w.0) (λ y p. L.passed_listed m u d h lu b w.1 y p);
        passed_acks = λ m d h n. rw (ne_eqb d c (not_c m d h n)) (λ p. L.passed_acks m d h n p);
        named_entered = λ m d h n. rw (ne_eqb d c (not_c m d h n)) (L.named_entered m d h n);
        deletes_come = L.deletes_come;
      },
      λ m u d h lu q.
          let r = waits_for F m u (W m u d h lu q) in
          let ne = not_c m r.0 h (I.within m u r.0 h lu r.3) in
          not_complete (on_retire F c).floor m u r.0 r.1 (rw (ne_eqb r.0 c ne) r.2) r.3 r.4,
    )

-- EVERY EVENT
module _ (M : Limits) (F : Floor) (G : History) (I : Invariant M F G) (X : LineFacts M F) (L : Live M F never) (W : ListsWait M F) where
  abbrev Alive : Floor → Type 0
  Alive Y = Live M Y never × ListsWait M Y

  handle_live : (i j : ℕ) (r : Record) (l : List Record) → MayWire F i j r l → Alive (handle M (unlined F i j) i j r).floor
  unfolding handle on_multicast multicast_by_row on_ack_list on_delete on_register room_of Less
  handle_live i j (multicast n) l may =
      let g : HeldRecord M F i j (multicast n) = on_lines_head F.stations (HeldRecord M F) i j F.lines (multicast n) l may.line may.from may.to X.records_held in
      let right = row_is_right M F G I j in
      on_option (λ (d : Done). Alive d.floor) (room_of M F i n)
      (λ q. absurd (room_none M F i n g.m q g.held g.is_initiator g.is_number))
      (λ m q. (
        multicast_live M F G i j n l may.line may.from may.to I L W (local_row F j) right m q,
        multicast_waits M F G i j n l may.line may.from may.to I L W (local_row F j) right m q,
      ))
  handle_live i j (ack_list n set) l may =
      let g : HeldRecord M F i j (ack_list n set) = on_lines_head F.stations (HeldRecord M F) i j F.lines (ack_list n set) l may.line may.from may.to X.records_held in
      let r = g.0 in
      on_option (λ (d : Done). Alive d.floor) (room_of M F j n)
      (λ q. absurd (room_none M F j n r.m q r.held r.is_initiator r.is_number))
      (λ m q. let f = room_some M F j n m q in
      let w : ListsWait M (add_acks (unlined F i j) m set) = acked_wait M F i j m set W in
      on_cond (λ (d : Done). Alive d.floor) (eqb (union (F.acked m) set) (F.named m))
      (λ e. (deletes_live M F G I X L W i j n set l may m f.0 f.1.0 f.1.1, lines_wait M (add_acks (unlined F i j) m set) (put (to_every F.stations j) (delete n) (behead i j F.lines)) w))
      (λ e. (added_live M F G I X L W i j n set l may m f.0 f.1.0 f.1.1 (λ u lu z. absurd (eqb-false (union (F.acked m) set) (F.named m) e z)), w)))
  handle_live i j (delete n) l may =
      let g : HeldRecord M F i j (delete n) = on_lines_head F.stations (HeldRecord M F) i j F.lines (delete n) l may.line may.from may.to X.records_held in
      let r = g.0 in
      on_option (λ (d : Done). Alive d.floor) (room_of M F i n)
      (λ q. absurd (room_none M F i n r.m q r.held r.is_initiator r.is_number))
      (λ m q. let f = room_some M F i n m q in (
        delete_live M F G I L W i j n l may m f.0 f.1.0 f.1.1 (unbuffer F m j).text,
        delete_waits M F G I L W i j n l may m f.0
            f.1.0 f.1.1 (unbuffer F m j).text,
      ))
  handle_live i j (deregister c) l may = deregister_live M F G I X L W i j c l may
  handle_live i j (register c row) l may =
      let z : registering row ∷ handoffs c l ≡ handoff_of (F.place c) i j (row_of M (F.next c)) = rw (may.line, eqb_self c) at (I.handoffs_right c i j) in
      let y = registering_is (F.place c) i j (row_of M (F.next c)) row (handoffs c l) z in
      let is_p = y.0 in
      arrive_live M F G j c may.to (I.real c (rw is_p)) (λ u. rw is_p) (behead i j F.lines) I
      (unlined_live M F never i j (register c row) l may.line may.from may.to (λ n c. refl) (λ n. refl) L) W
      (entry_of row) (λ s. ap (λ (f : List ℕ). entry_of f s) y.1.0 ∙ row_is_next M F G I c s)

  pub step_live : (e : Event) → Alive (step M F e)
  unfolding on_enter on_flag on_group
  step_live =
      by_step M F (λ e Y a. Alive Y) I.started (λ e r. (L, W))
      (λ t c may. let o = outside_is (F.place c) may.is_outside in
      let z = arrive_live M F G t c may.station may.cart (λ u. rw o) F.lines I L W (λ s. 0) (λ s. sym (I.out c s o)) in
      unspoken_live M (arrive M F t c (λ s. 0)) (update F.steady c true) (arrive M F t c (λ s. 0)).groups z.0 z.1)
      (λ s set text m may. (send_live M F G s set text m may I L W, send_waits M F G s set text m may I L W))
      handle_live
      (λ t c buffer m may. radio_live M F G m t c may I X L W)
      (λ c to may. move_live M F c to may L W)
      (λ c b may. unspoken_live M F (update F.steady c b) F.groups L W)
      (λ c may. retired_live M F G c may I L W)
      (λ g set may. unspoken_live M F F.steady (update F.groups g set) L W)
      (λ s g text m may. (send_live M F G s (F.groups g) text m may I L W, send_waits M F G s (F.groups g) text m may I L W))
      (λ s set text m may. (send_live M F G s set text m may I L W, send_waits M F G s set text m may I L W))
