-- Multicast, ack list and delete.
use mathlib.Core.Path.{ap, refl, sym, ◌∙◌, ◌≡◌}
use mathlib.Core.Bool.{◌&&◌, cond, false, not, true}
use mathlib.Core.Option.{some}
use mathlib.Core.List.{List, ◌∷◌}
use Prim.Native.Nat.{◌<◌, suc, ℕ, ◌≤◌}
use native.Mathlib.Omega.{arith}
use lib.Dec.{eqb, ltb}
use lib.ListN.{get_or, length}
use borrow.Author.Tests.{eqb-false, eqb-true, ltb-true, ne_eqb, not-true}
use Rattle.protocol.specs.Folds.{update, update2}
use Rattle.protocol.specs.CartSets.{has, minus, union, without}
use Rattle.protocol.specs.Floor.{Floor, Limits, Record, behead, carts_that, delete, is_local, multicast, on_lines, set_copy, set_expected, set_waiting, to_every, set_texts}
use Rattle.protocol.specs.Events.{Done}
use Rattle.protocol.specs.Handoff.{room_of}
use Rattle.protocol.specs.Wired.{add_acks, buffer, is_queued, is_struck, local_row, multicast_by_row, on_ack_list, on_delete, on_multicast, passes_over, raise_expected, unbuffer}
use Rattle.protocol.proofs.Tests.{and_intro, and_left, and_right, by_test, clash, on_cond, on_option, on_update, on_update2, or_cases, update_at, update2_at, by_eq, eqb_self}
use Rattle.protocol.proofs.SetLaws.{has_minus, has_union, set_of_member}
use Rattle.protocol.proofs.Invariant.{Held, History, Invariant, Queued, blank, names}
use Rattle.protocol.proofs.Updates.{Rise, acked_changed, copy_changed, is_home, local_is_home, multicast_taken, numbers_rise, received_over, record_put}
use Rattle.protocol.proofs.CatchUp.{room_none, room_some}

-- ack list, its record off the line
module _ (M : Limits) (F : Floor) (G : History) (i s n set : ℕ) (hs : (c : ℕ) → has set c ≡ true → n < F.next c s) (I : Invariant M F G) where
  acks_added_ok : (m : ℕ) → F.initiator m ≡ s → F.number m ≡ n → Invariant M (add_acks F m set) G
  acks_added_ok m is_i is_n =
      acked_changed M F G I (update F.acked m (union (F.acked m) set))
      (λ k c h. on_update (λ x. has x c ≡ true → F.number k < F.next c (F.initiator k)) F.acked m (union (F.acked m) set) k
      (λ z e. or_cases (has (F.acked m) c) (has set c) (sym (has_union (F.acked m) set c) ∙ e)
      (λ q. rw z (I.acked m c (rw z at h) q))
      (λ q. rw (z, is_i, is_n) (hs c q)))
      (λ z e. I.acked k c h e))

  -- the whole set has acknowledged
  whole_set_has_it : (m : ℕ) → Held M F.waiting m → F.initiator m ≡ s → F.number m ≡ n → union (F.acked m) set ≡ F.named m → (n < length (G.sends s)) × ((c : ℕ) → names (G.sends s) n c ≡ true → n < F.next c s)
  whole_set_has_it m h is_i is_n j = (
    let a = (I.held m h).low in let a' : n < F.sent s = rw (is_i, is_n) at a in let b = I.sends_counted s in omega arith,
    λ c e.
        let k = I.held m h in
        let d : has (F.named m) c ≡ true = rw (← k.is_set, is_i, is_n) e in
        let a : has (update F.acked m (union (F.acked m) set) m) c ≡ true = rw (update_at F.acked m (union (F.acked m) set), j) d in
        let z = (acks_added_ok m is_i is_n).acked m c h a in
        rw (is_i, is_n) at z,
  )

  pub ack_list_ok : Invariant M (on_ack_list M F s n set).floor G
  unfolding on_ack_list
  ack_list_ok =
      on_option (λ (d : Done). Invariant M d.floor G) (room_of M F s n)
      (λ q. I)
      (λ m q. let f = room_some M F s n m q in
      let C = acks_added_ok m f.1.0 f.1.1 in
      on_cond (λ (d : Done). Invariant M d.floor G) (eqb (union (F.acked m) set) (F.named m))
      (λ b. record_put M (add_acks F m set) G (to_every F.stations s) (delete n) refl (λ c. refl)
      (λ x y o. rw (← (eqb-true s x (and_left (eqb s x) (ltb y F.stations) o))) (whole_set_has_it m f.0 f.1.0 f.1.1 (eqb-true (union (F.acked m) set) (F.named m) b)))
      C)
      (λ b. C))

-- delete, its record off the line
module _ (M : Limits) (F : Floor) (G : History) (s t n : ℕ) (hs : (c : ℕ) → names (G.sends s) n c ≡ true → n < F.next c s) (I : Invariant M F G) where
  module _ (m : ℕ) (f : room_of M F s n ≡ some m) where
    waiting_less : ℕ → ℕ
    waiting_less = update F.waiting m (without (F.waiting m) t)

    back : (k : ℕ) → Held M waiting_less k → Held M F.waiting k
    unfolding waiting_less
    back k h =
        by_test (eqb k m)
        (λ z. rw (eqb-true k m z) (room_some M F s n m f).0)
        (λ z. record { slot = h.slot; some = (let y = h.some in rw z at y) })

    settled : (c : ℕ) → has (F.named m) c ≡ true → F.number m < F.next c (F.initiator m)
    settled c d =
        let h = room_some M F s n m f in
        let k = I.held m h.0 in
        let e : names (G.sends s) n c ≡ true = rw (← h.1.0, ← h.1.1, k.is_set) d in
        rw (h.1.0, h.1.1) (hs c e)

    other : (k : ℕ) → (k ≡ m → ⊥) → Held M F.waiting k → Held M waiting_less k
    unfolding waiting_less
    other k z h = record { slot = h.slot; some = rw (ne_eqb k m z) h.some }

    e' : (k u : ℕ) → eqb k m ≡ false → has (waiting_less k) u ≡ false → has (F.waiting k) u ≡ false
    unfolding waiting_less
    e' k u z e = rw z at e

    -- a message that is still held has its text
    text_kept : (k : ℕ) → Held M waiting_less k → (unbuffer F m t).text k ≡ F.text k
    unfolding waiting_less
    text_kept k h =
        by_eq k m
        (λ z. let y = h.some in let y' : eqb (without (F.waiting m) t) 0 ≡ false = rw (z, eqb_self m) at y in rw (z, eqb_self m, y'))
        (λ z. rw (ne_eqb k m z))

    waiting_less_ok : Invariant M (set_texts (set_waiting F waiting_less) (unbuffer F m t).text) G
    waiting_less_ok =
        let h = room_some M F s n m f in
        record {
          held = λ k h. let q = I.held k (back k h) in record { low = q.low; is_set = q.is_set; is_text = q.is_text ∙ sym (text_kept k h) };
          one_room = λ a b x y. I.one_room a b (back a x) (back b y);
          owed = λ s' n' c lc e le.
              let o = I.owed s' n' c lc e le in
              by_test (eqb o.m m)
              (λ z. absurd
              (let y = eqb-true o.m m z in
              let q = I.held m h.0 in
              let is_i : F.initiator m ≡ s' = rw (← y) o.is_initiator in
              let is_n : F.number m ≡ n' = rw (← y) o.is_number in
              let d : has (F.named m) c ≡ true = rw (← q.is_set, is_i, is_n) e in
              let g : n' < F.next c s' = rw (is_i, is_n) at (settled c d) in omega arith))
              (λ z. record { m = o.m; held = other o.m (eqb-false o.m m z) o.held; is_initiator = o.is_initiator; is_number = o.is_number });
          gone = λ k u c h lt e d.
              by_test (eqb k m)
              (λ z. let y = eqb-true k m z in rw y (settled c (rw y at d)))
              (λ z. I.gone k u c (back k h) lt (e' k u z e) d);
          acks = λ k u c h. I.acks k u c (back k h);
          acked = λ k c h. I.acked k c (back k h);
          copies = λ k u c h. I.copies k u c (back k h);
          within = λ k u c h. I.within k u c (back k h);
          queues = λ k u c e.
              let q = I.queues k u c e in
              record {
                home = q.home;
                due = q.due;
                is_named_lem = q.is_named_lem;
                held = other k (λ z. (let d = q.is_named_lem in let v = q.due in let g = settled c (rw z at d) in let v' : F.next c (F.initiator m) ≡ F.number m = rw z at v in omega arith)) q.held;
              };
          sends_counted = I.sends_counted;
          low = I.low;
          run = I.run;
          records_sound = I.records_sound;
          handoffs_right = I.handoffs_right;
          out = I.out;
          real = I.real;
          started = I.started;
          senders = I.senders;
          fits = I.fits;
          received_so_far = I.received_so_far;
        }

  pub delete_ok : Invariant M (on_delete M F s t n).floor G
  unfolding waiting_less on_delete
  delete_ok = on_option (λ (d : Done). Invariant M d.floor G) (room_of M F s n) (λ q. I) (λ m q. waiting_less_ok m q)

-- multicast, by a row that says yes for no cart but local ones
module _ (M : Limits) (F : Floor) (G : History) (s t n : ℕ) (l : List Record) (e : F.lines s t ≡ multicast n ∷ l) (lt : t < F.stations) (I : Invariant M F G) where
  module _ (local : ℕ) (is_local_lem : (c : ℕ) → has local c ≡ true → is_local F t c ≡ true) (m : ℕ) (f : room_of M F s n ≡ some m) where
    copied : ℕ → ℕ → ℕ
    copied = update2 F.copy m t (minus (F.named m) (carts_that F (is_struck F local m s n)))

    H : Held M F.waiting m
    H = (room_some M F s n m f).0

    is_i : F.initiator m ≡ s
    is_i = (room_some M F s n m f).1.0

    is_n : F.number m ≡ n
    is_n = (room_some M F s n m f).1.1

    is_expected : n ≡ F.expected t s
    is_expected = (rw e at (I.run s t lt)).0

    in_copy : (c : ℕ) → has (minus (F.named m) (carts_that F (is_struck F local m s n))) c ≡ (has (F.named m) c && not (has (carts_that F (is_struck F local m s n)) c))
    in_copy c = has_minus (F.named m) (carts_that F (is_struck F local m s n)) c

    copy_ok : Invariant M (set_copy F copied) G
    unfolding copied
    copy_ok =
        copy_changed M F G I copied
        (λ k u c h a b g d le.
        on_update2 (λ x. has x c ≡ true) F.copy m t (minus (F.named m) (carts_that F (is_struck F local m s n))) k u
        (λ x y. absurd (let b' : F.number m < F.expected t (F.initiator m) = rw (← x, ← y) b in let b'' : n < F.expected t s = rw (is_i, is_n) at b' in let z = is_expected in omega arith))
        (λ z. I.copies k u c h a b g d le))
        (λ k u c h lu.
        on_update2 (λ x. has x c ≡ true → has (F.named k) c ≡ true) F.copy m t (minus (F.named m) (carts_that F (is_struck F local m s n))) k u
        (λ x y q. rw x (and_left (has (F.named m) c) (not (has (carts_that F (is_struck F local m s n)) c)) (sym (in_copy c) ∙ q)))
        (λ z. I.within k u c h lu))

    -- a cart with a next number up to n is not struck
    not_struck : (c : ℕ) → F.next c s ≤ n → not (has (carts_that F (is_struck F local m s n)) c) ≡ true
    not_struck c le =
        by_test (has (carts_that F (is_struck F local m s n)) c)
        (λ q. let z = set_of_member F.carts (is_struck F local m s n) c q in
        let y = and_left (ltb n (F.next c s)) (has (F.named m) c) (and_right (has local c) (ltb n (F.next c s) && has (F.named m) c) z) in
        absurd (let x = ltb-true n (F.next c s) y in omega arith))
        (λ q. ap not q)

    moved_ok : Invariant M (set_expected (on_lines (set_copy F copied) (behead s t F.lines)) (update2 F.expected t s (suc (F.expected t s)))) G
    unfolding copied
    moved_ok =
        multicast_taken M (set_copy F copied) G s t n l e lt copy_ok
        (λ k c h a b g d le.
        let is_k : k ≡ m = I.one_room k m h H (a ∙ sym is_i) (b ∙ sym is_n) in
        let d' : has (F.named m) c ≡ true = rw is_k at d in
        let le' : F.next c s ≤ n = rw (a, b) at le in
        rw (is_k, update2_at F.copy m t (minus (F.named m) (carts_that F (is_struck F local m s n))))
        (in_copy c ∙ and_intro (has (F.named m) c) (not (has (carts_that F (is_struck F local m s n)) c)) d' (not_struck c le')))

    skipping : (c : ℕ) → passes_over F local m s n c ≡ true → (is_local F t c ≡ true) × ((F.next c s ≡ n) × (has (F.named m) c ≡ false))
    skipping c q =
        let a = is_local_lem c (and_left (has local c) (eqb (F.next c s) n && not (has (F.named m) c)) q) in
        let b = and_right (has local c) (eqb (F.next c s) n && not (has (F.named m) c)) q in
        (a, (eqb-true (F.next c s) n (and_left (eqb (F.next c s) n) (not (has (F.named m) c)) b), not-true (has (F.named m) c) (and_right (eqb (F.next c s) n) (not (has (F.named m) c)) b)))

    X : ℕ → ℕ → ℕ
    X = λ c u. cond (eqb u s && passes_over F local m s n c) (suc n) (F.next c u)

    -- a property of the raised number
    on_X : (P : ℕ → Type 0) (c u : ℕ) → (u ≡ s → (is_local F t c ≡ true) × ((F.next c s ≡ n) × (has (F.named m) c ≡ false)) → P (suc n)) → P (F.next c u) → P (X c u)
    unfolding X
    on_X P c u p q =
        on_cond P (eqb u s && passes_over F local m s n c)
        (λ b. p (eqb-true u s (and_left (eqb u s) (passes_over F local m s n c) b)) (skipping c (and_right (eqb u s) (passes_over F local m s n c) b)))
        (λ b. q)

    rises : Rise F X
    rises =
        record {
          up = λ c u. on_X (λ x. F.next c u ≤ x) c u (λ z k. rw z (let y = k.1.0 in omega arith)) (omega arith);
          cap = λ c u. on_X (λ x. x ≤ F.sent u) c u (λ z k. rw z (let y = (I.held m H).low in let y' : n < F.sent s = rw (is_i, is_n) at y in omega arith)) (I.low c u);
          home = λ c u h. on_X (λ x. x ≡ F.next c u) c u (λ z k. clash (is_home (F.place c)) (local_is_home (F.place c) t k.0) h) refl;
        }

    passes : (c u j : ℕ) → F.next c u ≤ j → j < X c u → names (G.sends u) j c ≡ false
    passes c u j le =
        on_X (λ x. j < x → names (G.sends u) j c ≡ false) c u
        (λ z k g. let is_j : j ≡ n = (let y = k.1.0 in let le' : F.next c s ≤ j = rw z at le in omega arith) in
        let a = (I.held m H).is_set in
        let a' : (get_or (G.sends s) n blank).set ≡ F.named m = rw (is_i, is_n) at a in
        rw (z, is_j, a') k.1.1)
        (λ g. absurd (omega arith))

    enqueued : ℕ → ℕ → ℕ
    enqueued = update2 F.queue m t (carts_that F (is_queued F local m s n))

    queued : (k u c : ℕ) → has (enqueued k u) c ≡ true → Queued M F.waiting F.initiator F.number F.named F.place X k u c
    unfolding enqueued
    queued k u c =
        on_update2 (λ x. has x c ≡ true → Queued M F.waiting F.initiator F.number F.named F.place X k u c) F.queue m t
        (carts_that F (is_queued F local m s n)) k u
        (λ x y q.
        let r = set_of_member F.carts (is_queued F local m s n) c q in
        let o = is_local_lem c (and_left (has local c) (eqb (F.next c s) n && has (F.named m) c) r) in
        let r' = and_right (has local c) (eqb (F.next c s) n && has (F.named m) c) r in
        let v = eqb-true (F.next c s) n (and_left (eqb (F.next c s) n) (has (F.named m) c) r') in
        let d = and_right (eqb (F.next c s) n) (has (F.named m) c) r' in
        record {
          held = rw x H;
          home = rw y o;
          is_named_lem = rw x d;
          due = rw x (on_X (λ z. z ≡ F.number m) c (F.initiator m) (λ z g. clash (has (F.named m) c) d g.1.1) (rw (is_i, is_n) v));
        })
        (λ z q.
        let o = I.queues k u c q in
        record {
          held = o.held;
          home = o.home;
          is_named_lem = o.is_named_lem;
          due = on_X (λ x. x ≡ F.number k) c (F.initiator k)
              (λ y g. let w = o.due in
              let v : F.number k ≡ F.number m = (let w' : F.next c s ≡ F.number k = rw y at w in let a = g.1.0 in let b = is_n in omega arith) in
              let is_k : k ≡ m = I.one_room k m o.held H (y ∙ sym is_i) v in
              let d = o.is_named_lem in
              clash (has (F.named m) c) (rw is_k at d) g.1.1)
              o.due;
        })

    pub multicast_buffered_ok : Invariant M (raise_expected (buffer (on_lines F (behead s t F.lines)) local m t s n) t s) G
    unfolding X enqueued copied buffer
    multicast_buffered_ok =
        let F2 = set_expected (on_lines (set_copy F copied) (behead s t F.lines)) (update2 F.expected t s (suc (F.expected t s))) in
        let R : Rise F2 X = record { up = rises.up; cap = rises.cap; home = rises.home } in
        numbers_rise M F2 G X enqueued G.received R queued (received_over M F2 G X moved_ok R passes) moved_ok

  pub multicast_ok : Invariant M (on_multicast M (on_lines F (behead s t F.lines)) s t n).floor G
  unfolding on_multicast multicast_by_row buffer room_of
  multicast_ok =
      on_option (λ (d : Done). Invariant M d.floor G) (room_of M F s n)
      (λ q. multicast_taken M F G s t n l e lt I (λ m c h a b g d le. absurd (room_none M F s n m q h a b)))
      (λ m q. multicast_buffered_ok (local_row F t) (λ c. set_of_member F.carts (is_local F t) c) m q)
