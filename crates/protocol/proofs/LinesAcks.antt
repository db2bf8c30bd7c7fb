-- The records on the lines after an ack list and a delete.
use mathlib.Core.Path.{ap, refl, sym, ◌∙◌, ◌≡◌}
use mathlib.Core.Bool.{◌&&◌, Bool, false, not, true, ◌||◌}
use mathlib.Core.Option.{some}
use mathlib.Core.List.{List, [], ◌∷◌}
use Prim.Native.Nat.{◌+◌, ◌<◌, ℕ, ◌≤◌}
use native.Mathlib.Omega.{arith}
use lib.Dec.{eqb, ltb}
use borrow.Author.Tests.{eq-eqb, eqb-false, eqb-true, ne_eqb}
use Rattle.protocol.specs.Folds.{update}
use Rattle.protocol.specs.CartSets.{has, union, without}
use Rattle.protocol.specs.Floor.{Floor, Limits, Record, ack_list, behead, delete, deregister, multicast, on_lines, push, put, register, set_waiting, to_every, set_texts}
use Rattle.protocol.specs.Events.{Done}
use Rattle.protocol.specs.Handoff.{room_of}
use Rattle.protocol.specs.Wired.{add_acks, on_ack_list, on_delete, unbuffer}
use Rattle.protocol.specs.Wireless.{all_acked}
use Rattle.protocol.specs.Claims.{All}
use Rattle.protocol.specs.Form.{ack_count, acks_of, acks_to, bit, count_line, count_lines, is_ack_of, is_delete_of, multicast_numbers}
use Rattle.protocol.proofs.Tests.{and-false, and_intro, and_left, by_test, clash, eqb_self, on_cond, on_option, on_update, update_at}
use Rattle.protocol.proofs.SetLaws.{has_some, has_union, has_without}
use Rattle.protocol.proofs.FloorLaws.{on_put}
use Rattle.protocol.proofs.Invariant.{CountsUp, Held, History, Invariant}
use Rattle.protocol.proofs.Updates.{all_map, record_taken}
use Rattle.protocol.proofs.CatchUp.{room_some}
use Rattle.protocol.proofs.Counting.{OnLines, all_map2, bit_le, count_line_more, count_line_none, count_lines_at, count_lines_behead, count_lines_put_none, none_count_line, none_count_lines, on_line, on_lines_behead, on_lines_head, on_lines_map, on_lines_put}
use Rattle.protocol.proofs.LineFacts.{DeletesAfter, HeldRecord, LineFacts, OfHeld, Reach, deletes_after_delete, is_multicast_of, no_multicast_below, taken_lines}

module _ (M : Limits) (F : Floor) (X : LineFacts M F) where
  -- while an ack list of m is on a line, m is not fully acknowledged
  pub not_all_acked : (i s n set : ℕ) (l : List Record) → F.lines i s ≡ ack_list n set ∷ l → i < F.stations → s < F.stations → (m : ℕ) → Held M F.waiting m → F.initiator m ≡ s → F.number m ≡ n → F.acked m ≡ F.named m → ⊥
  not_all_acked i s n set l e li ls m h is_i is_n all_acked =
      let g : HeldRecord M F i s (ack_list n set) =
      on_lines_head F.stations (HeldRecord M F) i s F.lines (ack_list n set) l e li ls X.records_held in
      let c = g.1.0 in
      let hc : has set c ≡ true = g.1.2 in
      let p = count_lines_at F.stations (acks_to (F.initiator m) (F.number m) c) i s F.lines (ack_list n set) l e li ls (rw (is_i, is_n, eqb_self s, eqb_self n) hc) in
      let d = X.within m c h (omega arith) in
      let a : bit (has (F.acked m) c) ≡ 1 = rw (all_acked, d) in
      let o = X.acks_once m c h in
      omega arith

-- ack list
module _ (M : Limits) (F : Floor) (G : History) (i s n set : ℕ) (l : List Record) (I : Invariant M F G) (X : LineFacts M F) (li : i < F.stations) (ls : s < F.stations) (e : F.lines i s ≡ ack_list n set ∷ l) where
  Fp : Floor
  Fp = on_lines F (behead i s F.lines)

  Xp : LineFacts M Fp
  unfolding Fp
  Xp = taken_lines M F i s (ack_list n set) l e (λ k d. d) X

  module _ (m : ℕ) (f : room_of M F s n ≡ some m) where
    H : Held M F.waiting m
    H = (room_some M F s n m f).0

    is_i : F.initiator m ≡ s
    is_i = (room_some M F s n m f).1.0

    is_n : F.number m ≡ n
    is_n = (room_some M F s n m f).1.1

    not_all_yet : F.acked m ≡ F.named m → ⊥
    not_all_yet = not_all_acked M F X i s n set l e li ls m H is_i is_n

    J : ℕ → ℕ
    J = update F.acked m (union (F.acked m) set)

    bit_or : (a b : Bool) (c : Bool) → (c ≡ true → a || b ≡ true) → bit c ≤ bit a + bit b
    bit_or a b false h = omega arith
    bit_or true b true h = omega arith
    bit_or false true true h = omega arith
    bit_or false false true h = clash false (h refl) refl

    waiting_less : (k c : ℕ) → Held M F.waiting k
        → ack_count F.stations J F.acks F.initiator F.number (behead i s F.lines) k c ≤ acks_of M F k c
    unfolding J
    waiting_less k c h =
        let z = count_lines_behead F.stations (acks_to (F.initiator k) (F.number k) c) i s F.lines (ack_list n set) l e li ls in
        by_test (eqb k m)
        (λ q. let y = eqb-true k m q in
        let v : acks_to (F.initiator k) (F.number k) c i s (ack_list n set) ≡ has set c = rw (y, is_i, is_n, eqb_self s, eqb_self n) in
        let z' : count_lines F.stations (acks_to (F.initiator m) (F.number m) c) F.lines ≡ bit (has set c) + count_lines F.stations (acks_to (F.initiator m) (F.number m) c) (behead i s F.lines) = rw (v, y) at z in
        let b = bit_or (has (F.acked m) c) (has set c) (has (union (F.acked m) set) c) (λ q. sym (has_union (F.acked m) set c) ∙ q) in
        rw (y, eqb_self m) (omega arith))
        (λ q. rw q (omega arith))

    kept : (k : ℕ) → F.acked k ≡ F.named k → J k ≡ F.named k
    unfolding J
    kept k q = by_test (eqb k m) (λ z. absurd (not_all_yet (let y = eqb-true k m z in rw y at q))) (λ z. rw z q)

    record_kept : (a b : ℕ) (x : Record) → HeldRecord M F a b x
        → OfHeld M F.carts F.waiting F.initiator F.number J F.named a b x
    record_kept a b (multicast k) g = g
    record_kept a b (ack_list k x) g = g
    record_kept a b (delete k) g = (g.0, kept g.0.m g.1)
    record_kept a b (deregister d) g = g
    record_kept a b (register d row) g = g

    acks_added_lines : LineFacts M (add_acks Fp m set)
    unfolding Fp J
    acks_added_lines =
        record {
          deleted_acked = λ k t h lt q. kept k (X.deleted_acked k t h lt q);
          records_held = on_lines_map F.stations (HeldRecord M F) (OfHeld M F.carts F.waiting F.initiator F.number J F.named) (behead i s F.lines) record_kept Xp.records_held;
          acks_once = λ k c h. let z = waiting_less k c h in let y = X.acks_once k c h in omega arith;
          within = λ k c h p. let z = waiting_less k c h in X.within k c h (omega arith);
          order = Xp.order;
          deletes_once = Xp.deletes_once;
        }

    all_wait : (t : ℕ) → t < F.stations → has (F.waiting m) t ≡ true
    all_wait t lt = by_test (has (F.waiting m) t) (λ q. q) (λ q. absurd (not_all_yet (X.deleted_acked m t H lt q)))

    no_delete_yet : (a b : ℕ) (x : Record) → HeldRecord M F a b x → a ≡ F.initiator m → is_delete_of (F.number m) x ≡ false
    no_delete_yet a b (multicast k) g z = refl
    no_delete_yet a b (ack_list k x) g z = refl
    no_delete_yet a b (delete k) g z =
        by_test (eqb k (F.number m))
        (λ q. let r = g.0 in
        let is_m : r.m ≡ m = I.one_room r.m m r.held H (r.is_initiator ∙ z) (r.is_number ∙ eqb-true k (F.number m) q) in
        let v = g.1 in
        absurd (not_all_yet (rw is_m at v)))
        (λ q. q)
    no_delete_yet a b (deregister d) g z = refl
    no_delete_yet a b (register d row) g z = refl

    -- a delete of another number does not count
    other : (k : ℕ) → Held M F.waiting k → (k ≡ m → ⊥) → F.initiator k ≡ s → bit (eqb n (F.number k)) ≡ 0
    other k h ne z = by_test (eqb n (F.number k)) (λ b. absurd (ne (I.one_room k m h H (z ∙ sym is_i) (sym (eqb-true n (F.number k) b) ∙ sym is_n)))) (λ b. rw b)

    deletes_sent_lines : J m ≡ F.named m → LineFacts M (push (add_acks Fp m set) (to_every F.stations s) (delete n))
    unfolding Fp J
    deletes_sent_lines jd =
        let P = record_taken M F G i s (ack_list n set) l e refl (λ c. refl) I in
        let w = behead i s F.lines in
        let on = to_every F.stations s in
        let from : (a b : ℕ) → on a b ≡ true → s ≡ a = λ a b o. eqb-true s a (and_left (eqb s a) (ltb b F.stations) o) in
        let none : (k c : ℕ) → count_lines F.stations (acks_to (F.initiator k) (F.number k) c) (put on (delete n) w) ≡ count_lines F.stations (acks_to (F.initiator k) (F.number k) c) w =
        λ k c. count_lines_put_none F.stations (acks_to (F.initiator k) (F.number k) c) on (delete n) w (λ a b o. and-false (eqb b (F.initiator k))) in
        let C = acks_added_lines in
        record {
          order = λ a t lt. on_put (DeletesAfter (F.expected t a)) on (delete n) w a t
              (λ o. deletes_after_delete (F.expected t a) (w a t) (F.sent a) n (P.run a t lt) (rw (← (from a t o), ← is_i, ← is_n) (I.held m H).low) (C.order a t lt))
              (λ o. C.order a t lt);
          records_held = on_lines_put F.stations (OfHeld M F.carts F.waiting F.initiator F.number J F.named) on (delete n) w C.records_held
              (λ a t la lt o. (record { m = m; held = H; is_initiator = is_i ∙ from a t o; is_number = is_n; waits = all_wait t lt }, jd));
          deletes_once = λ k u h lu. on_put (λ x. count_line (is_delete_of (F.number k)) x ≤ 1) on (delete n) w (F.initiator k) u
              (λ o. let z = count_line_more (is_delete_of (F.number k)) (w (F.initiator k) u) (delete n) in
              by_test (eqb k m)
              (λ q. let y = eqb-true k m q in
              let v : count_line (is_delete_of (F.number k)) (w (F.initiator k) u) ≡ 0 = count_line_none (is_delete_of (F.number k)) (w (F.initiator k) u)
              (all_map (w (F.initiator k) u) (λ x g. rw y (no_delete_yet (F.initiator m) u x (rw y at g) refl)) (Xp.records_held (F.initiator k) u (rw (y, is_i) ls) lu)) in
              let b = bit_le (eqb n (F.number k)) in omega arith)
              (λ q. let y = C.deletes_once k u h lu in let v = other k h (eqb-false k m q) (sym (from (F.initiator k) u o)) in omega arith))
              (λ o. C.deletes_once k u h lu);
          acks_once = λ k c h. let z = none k c in let y = C.acks_once k c h in omega arith;
          within = λ k c h p. let z = none k c in C.within k c h (omega arith);
          deleted_acked = C.deleted_acked;
        }

  pub ack_list_lines : LineFacts M (on_ack_list M (on_lines F (behead i s F.lines)) s n set).floor
  unfolding Fp J on_ack_list room_of
  ack_list_lines =
      on_option (λ (d : Done). LineFacts M d.floor) (room_of M F s n)
      (λ q. Xp)
      (λ m q. on_cond (λ (d : Done). LineFacts M d.floor) (eqb (union (F.acked m) set) (F.named m))
      (λ b. deletes_sent_lines m q (rw (update_at F.acked m (union (F.acked m) set)) (eqb-true (union (F.acked m) set) (F.named m) b)))
      (λ b. acks_added_lines m q))

-- delete
all_all : (P : ℕ → Record → Type 0) (l : List Record) → ((c : ℕ) → All (P c) l) → All (λ b. (c : ℕ) → P c b) l
all_all P [] f = tt
all_all P (b ∷ l) f = ((λ c. (f c).0), all_all P l (λ c. (f c).1))

module _ (M : Limits) (F : Floor) (G : History) (s t n : ℕ) (l : List Record) (I : Invariant M F G) (X : LineFacts M F) (ls : s < F.stations) (lt : t < F.stations) (e : F.lines s t ≡ delete n ∷ l) where
  Xd : LineFacts M (on_lines F (behead s t F.lines))
  Xd = taken_lines M F s t (delete n) l e (λ k d. d.1) X

  module _ (m : ℕ) (f : room_of M F s n ≡ some m) where
    Hm : Held M F.waiting m
    Hm = (room_some M F s n m f).0

    m_i : F.initiator m ≡ s
    m_i = (room_some M F s n m f).1.0

    m_n : F.number m ≡ n
    m_n = (room_some M F s n m f).1.1

    W : ℕ → ℕ
    W = update F.waiting m (without (F.waiting m) t)

    still_held : (k : ℕ) → Held M W k → Held M F.waiting k
    unfolding W
    still_held k h = by_test (eqb k m) (λ z. rw (eqb-true k m z) Hm) (λ z. record { slot = h.slot; some = (let y = h.some in rw z at y) })

    stay : (k u : ℕ) → Held M F.waiting k → u < F.stations → has (F.waiting k) u ≡ true → (k ≡ m → u ≡ t → ⊥) → has (W k) u ≡ true
    unfolding W
    stay k u h lu hw ne =
        on_update (λ x. has x u ≡ true) F.waiting m (without (F.waiting m) t) k
        (λ z. has_without (F.waiting m) t u ∙ and_intro (has (F.waiting m) u) (not (eqb t u)) (rw z at hw) (ap not (ne_eqb t u (λ q. ne z (sym q)))))
        (λ z. hw)

    off : (k u : ℕ) → eqb k m ≡ false → has (W k) u ≡ false → has (F.waiting k) u ≡ false
    unfolding W
    off k u z q = rw z at q

    held_after : (k : ℕ) → (k ≡ m → ⊥) → Held M F.waiting k → Held M W k
    unfolding W
    held_after k z h = record { slot = h.slot; some = rw (ne_eqb k m z) h.some }

    whole_set_acked : F.acked m ≡ F.named m
    whole_set_acked =
        let g : HeldRecord M F s t (delete n) = on_lines_head F.stations (HeldRecord M F) s t F.lines (delete n) l e ls lt X.records_held in
        let r = g.0 in
        let is_m : r.m ≡ m = I.one_room r.m m r.held Hm (r.is_initiator ∙ sym m_i) (r.is_number ∙ sym m_n) in
        let v = g.1 in
        rw is_m at v

    -- nothing else of m goes to t, and no ack list of m is on its way
    no_acks : (c : ℕ) → OnLines F.stations (λ a b x. acks_to (F.initiator m) (F.number m) c a b x ≡ false) F.lines
    no_acks c =
        none_count_lines F.stations (acks_to (F.initiator m) (F.number m) c) F.lines
        (by_test (eqb (count_lines F.stations (acks_to (F.initiator m) (F.number m) c) F.lines) 0)
        (λ q. eqb-true (count_lines F.stations (acks_to (F.initiator m) (F.number m) c) F.lines) 0 q)
        (λ q. absurd
        (let ne : count_lines F.stations (acks_to (F.initiator m) (F.number m) c) F.lines ≡ 0 → ⊥ = eqb-false (count_lines F.stations (acks_to (F.initiator m) (F.number m) c) F.lines) 0 q in
        let d = X.within m c Hm (omega arith) in
        let a : bit (has (F.acked m) c) ≡ 1 = rw (whole_set_acked, d) in
        let o = X.acks_once m c Hm in omega arith)))

    no_multicast_left : All (λ x. is_multicast_of n x ≡ false) l
    no_multicast_left =
        let o : DeletesAfter (F.expected t s) (delete n ∷ l) = rw e at (X.order s t lt) in
        let r : CountsUp (F.expected t s) (multicast_numbers l) (F.sent s) = rw e at (I.run s t lt) in
        no_multicast_below (F.expected t s) l (F.sent s) n r o.0

    no_second_delete : All (λ x. is_delete_of n x ≡ false) l
    no_second_delete =
        none_count_line (is_delete_of n) l
        (let y = X.deletes_once m t Hm lt in
        let y' : bit (eqb n n) + count_line (is_delete_of n) l ≤ 1 = rw (m_i, m_n, e) at y in
        let v : bit (eqb n n) ≡ 1 = rw (eqb_self n) in omega arith)

    -- the rest of this line says nothing more of m
    silent : (a b : ℕ) → All (λ x. eqb a s && eqb b t ≡ true → (is_multicast_of n x ≡ false) × (is_delete_of n x ≡ false)) (behead s t F.lines a b)
    silent =
        on_line (λ x. (is_multicast_of n x ≡ false) × (is_delete_of n x ≡ false)) s t (behead s t F.lines)
        (rw (eqb_self s, eqb_self t, e) (all_map2 l (λ x p q. (p, q)) no_multicast_left no_second_delete))

    reach_kept : (a k b : ℕ) → b < F.stations → (r : Reach M F.waiting F.initiator F.number a k b) → (r.m ≡ m → b ≡ t → ⊥) → Reach M W F.initiator F.number a k b
    reach_kept a k b lb r ne =
        let v = stay r.m b r.held lb r.waits ne in
        record { m = r.m; held = record { slot = r.held.slot; some = has_some (W r.m) b v }; is_initiator = r.is_initiator; is_number = r.is_number; waits = v }

    record_left : (a b : ℕ) → b < F.stations → (x : Record) → HeldRecord M F a b x
        → (eqb a s && eqb b t ≡ true → (is_multicast_of n x ≡ false) × (is_delete_of n x ≡ false)) → ((c : ℕ) → eqb b (F.initiator m) && is_ack_of (F.number m) c x ≡ false)
        → OfHeld M F.carts W F.initiator F.number F.acked F.named a b x
    unfolding reach_kept
    record_left a b lb (multicast k) r p o =
        reach_kept a k b lb r
        (λ z y. let a' : a ≡ s = sym r.is_initiator ∙ (rw z m_i) in
        let k' : k ≡ n = sym r.is_number ∙ (rw z m_n) in
        clash (eqb k n) (eq-eqb k n k') (p (and_intro (eqb a s) (eqb b t) (eq-eqb a s a') (eq-eqb b t y))).0)
    record_left a b lb (ack_list k x) g p o =
        let h = g.0 in (
          record {
            m = h.m;
            is_initiator = h.is_initiator;
            is_number = h.is_number;
            held = held_after h.m
                (λ z. let c = g.1.0 in
                let b' : b ≡ F.initiator m = sym h.is_initiator ∙ rw z in
                let k' : k ≡ F.number m = sym h.is_number ∙ rw z in
                clash (eqb b (F.initiator m) && (eqb k (F.number m) && has x c))
                (and_intro (eqb b (F.initiator m)) (eqb k (F.number m) && has x c) (eq-eqb b (F.initiator m) b') (and_intro (eqb k (F.number m)) (has x c) (eq-eqb k (F.number m) k') g.1.2))
                (o c))
                h.held;
          },
          g.1,
        )
    record_left a b lb (delete k) g p o =
        let r = g.0 in (
          reach_kept a k b lb r
              (λ z y. let a' : a ≡ s = sym r.is_initiator ∙ (rw z m_i) in
              let k' : k ≡ n = sym r.is_number ∙ (rw z m_n) in
              clash (eqb k n) (eq-eqb k n k') (p (and_intro (eqb a s) (eqb b t) (eq-eqb a s a') (eq-eqb b t y))).1),
          g.1,
        )
    record_left a b lb (deregister d) g p o = g
    record_left a b lb (register d row) g p o = g

    waiting_less_lines : (x : ℕ → List ℕ) → LineFacts M (set_texts (set_waiting (on_lines F (behead s t F.lines)) W) x)
    waiting_less_lines x =
        record {
          deleted_acked = λ k u h lu q. by_test (eqb k m) (λ z. let y = eqb-true k m z in rw y whole_set_acked) (λ z. X.deleted_acked k u (still_held k h) lu (off k u z q));
          records_held = λ a b la lb.
              all_map2 (behead s t F.lines a b) (λ x f o. f o)
              (all_map2 (behead s t F.lines a b) (λ x g p. record_left a b lb x g p) (Xd.records_held a b la lb) (silent a b))
              ((all_all (λ c x. acks_to (F.initiator m) (F.number m) c a b x ≡ false) (behead s t F.lines a b) (λ c. on_lines_behead F.stations (λ a b x. acks_to (F.initiator m) (F.number m) c a b x ≡ false) s t F.lines (no_acks c) a b la lb)));
          deletes_once = λ k u h lu. Xd.deletes_once k u (still_held k h) lu;
          acks_once = λ k c h. Xd.acks_once k c (still_held k h);
          within = λ k c h. Xd.within k c (still_held k h);
          order = Xd.order;
        }

  pub delete_lines : LineFacts M (on_delete M (on_lines F (behead s t F.lines)) s t n).floor
  unfolding W on_delete room_of
  delete_lines = on_option (λ (d : Done). LineFacts M d.floor) (room_of M F s n) (λ q. Xd) (λ m q. waiting_less_lines m q (unbuffer F m t).text)
