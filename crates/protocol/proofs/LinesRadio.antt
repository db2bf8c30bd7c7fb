-- The records on the lines after a deregister, a multicast and a radio step.
use mathlib.Core.Path.{ap, refl, subst, sym, ◌∙◌, ◌≡◌}
use mathlib.Core.Bool.{◌&&◌, cond, false, true}
use mathlib.Core.List.{List, [], ◌∷◌}
use Prim.Native.Nat.{◌+◌, ◌<◌, ℕ, ◌≤◌}
use native.Mathlib.Omega.{arith}
use lib.Dec.{eqb, ltb}
use borrow.Author.Tests.{eqb-false, eqb-true, ltb-false, ltb-true, ne_eqb}
use Rattle.protocol.specs.Folds.{count, update2}
use Rattle.protocol.specs.CartSets.{has, with}
use Rattle.protocol.specs.Floor.{Floor, Limits, Record, ack_list, behead, between, delete, deregister, multicast, on_lines, put, register}
use Rattle.protocol.specs.Events.{Done}
use Rattle.protocol.specs.Handoff.{room_of, row_of}
use Rattle.protocol.specs.Deregister.{leave, on_deregister}
use Rattle.protocol.specs.Wired.{buffer, multicast_by_row, on_multicast}
use Rattle.protocol.specs.Wireless.{all_acked, hand_over, receive, send_acks, send_acks_if_all}
use Rattle.protocol.specs.Form.{ack_count, acks_of, acks_to, bit, count_line, count_lines, is_ack_of, is_delete_of}
use Rattle.protocol.proofs.Tests.{and-false, and_left, and_right, both_equal, by_test, eqb_self, not_both_equal, on_cond, on_option, on_update2, or_cases, or_right, update2_at}
use Rattle.protocol.proofs.SetLaws.{has_with, has_zero}
use Rattle.protocol.proofs.FloorLaws.{on_put}
use Rattle.protocol.proofs.InOrder.{Distinct, EachOf, completed, deregister_splits, each_both, handed_off, send_each_head, send_each_is, send_each}
use Rattle.protocol.proofs.Accepted.{MayRadio}
use Rattle.protocol.proofs.Invariant.{Entry, Held, History, Invariant, Sound}
use Rattle.protocol.proofs.CatchUp.{one_at_once}
use Rattle.protocol.proofs.DeregisterStep.{Goes, all_go, completed_distinct}
use Rattle.protocol.proofs.Counting.{count_at, count_ext, count_mono, count_none, count_off, count_one, count_line_more, count_lines_none, count_lines_put_one, on_lines_map, on_lines_put}
use Rattle.protocol.proofs.LineFacts.{DeletesAfter, HeldRecord, LineFacts, deletes_after_quiet, multicast_taken_lines, put_lines, taken_lines}

pub handed_off_lines : (M : Limits) (F : Floor) (i t c : ℕ) (l : List Record) → F.lines i t ≡ deregister c ∷ l → c < F.carts → LineFacts M F
    → LineFacts M (handed_off M (on_lines F (behead i t F.lines)) i t c)
unfolding leave
handed_off_lines M F i t c l e lc X =
    put_lines M (on_lines F (behead i t F.lines)) t i (register c (row_of M (F.next c))) refl (λ n. refl) (λ n c. refl) lc (taken_lines M F i t (deregister c) l e (λ k d. d) X)

pub multicast_lines : (M : Limits) (F : Floor) (s t n : ℕ) (l : List Record) → F.lines s t ≡ multicast n ∷ l → LineFacts M F
    → LineFacts M (on_multicast M (on_lines F (behead s t F.lines)) s t n).floor
unfolding on_multicast multicast_by_row buffer room_of
multicast_lines M F s t n l e X =
    on_option (λ (d : Done). LineFacts M d.floor) (room_of M F s n) (λ q. multicast_taken_lines M F s t n l e X) (λ m q. multicast_taken_lines M F s t n l e X)

-- what is acknowledged has been passed
no_ack_yet : (sends : ℕ → List Entry) (next : ℕ → ℕ → ℕ) (s n c : ℕ) → next c s ≤ n → (i j : ℕ) (b : Record) → Sound sends next i j b → eqb j s && is_ack_of n c b ≡ false
no_ack_yet sends next s n c le i j (multicast k) p = and-false (eqb j s)
no_ack_yet sends next s n c le i j (ack_list k x) p =
    by_test (eqb j s && (eqb k n && has x c))
    (λ q. let a = eqb-true j s (and_left (eqb j s) (eqb k n && has x c) q) in
    let b = and_right (eqb j s) (eqb k n && has x c) q in
    let k' = eqb-true k n (and_left (eqb k n) (has x c) b) in
    absurd (let z = p c (and_right (eqb k n) (has x c) b) in let z' : k < next c s = rw a at z in omega arith))
    (λ q. q)
no_ack_yet sends next s n c le i j (delete k) p = and-false (eqb j s)
no_ack_yet sends next s n c le i j (deregister d) p = and-false (eqb j s)
no_ack_yet sends next s n c le i j (register d row) p = and-false (eqb j s)

pub acked_has_passed : (M : Limits) (F : Floor) (G : History) → Invariant M F G → (m c : ℕ) → Held M F.waiting m
    → 0 < acks_of M F m c → F.number m < F.next c (F.initiator m)
acked_has_passed M F G I m c h t =
    by_test (ltb (F.number m) (F.next c (F.initiator m)))
    (λ q. ltb-true (F.number m) (F.next c (F.initiator m)) q)
    (λ q. let le = ltb-false (F.number m) (F.next c (F.initiator m)) q in
    let a : bit (has (F.acked m) c) ≡ 0 = by_test (has (F.acked m) c) (λ y. absurd (let z = I.acked m c h y in omega arith)) (λ y. rw y) in
    let b : count F.stations (λ t. has (F.acks m t) c) ≡ 0 =
    count_none F.stations (λ t. has (F.acks m t) c) (λ u lu. by_test (has (F.acks m u) c) (λ y. absurd (let z = I.acks m u c h lu y in omega arith)) (λ y. y)) in
    let d : count_lines F.stations (acks_to (F.initiator m) (F.number m) c) F.lines ≡ 0 =
    count_lines_none F.stations (acks_to (F.initiator m) (F.number m) c) F.lines
    (on_lines_map F.stations (Sound G.sends F.next) (λ i j b. acks_to (F.initiator m) (F.number m) c i j b ≡ false) F.lines
    (λ i j b p. no_ack_yet G.sends F.next (F.initiator m) (F.number m) c le i j b p) I.records_sound) in
    omega arith)

-- radio: the cart joins the ack list
module _ (M : Limits) (F : Floor) (G : History) (m t c : ℕ) (I : Invariant M F G) (X : LineFacts M F) (q0 : has (F.queue m t) c ≡ true) (lt : t < F.stations) (lc : c < F.carts) where
  T : ℕ → ℕ → ℕ
  T = acks_of M F

  A : ℕ → ℕ → ℕ
  A = update2 F.acks m t (with (F.acks m t) c)

  T' : ℕ → ℕ → ℕ
  unfolding A
  T' = ack_count F.stations F.acked A F.initiator F.number F.lines

  fresh : T m c ≡ 0
  unfolding T
  fresh =
      let q = I.queues m t c q0 in
      let z = acked_has_passed M F G I m c q.held in
      by_test (eqb (T m c) 0) (λ e. eqb-true (T m c) 0 e)
      (λ e. absurd (let ne : T m c ≡ 0 → ⊥ = eqb-false (T m c) 0 e in let y = z (omega arith) in let v = q.due in omega arith))

  -- no other tally grows
  either_way : (k d : ℕ) → (k ≡ m → d ≡ c → ⊥) → T' k d ≤ T k d
  unfolding T T' A
  either_way k d ne =
      let z = count_mono F.stations (λ u. has (A k u) d) (λ u. has (F.acks k u) d)
      (λ u. on_update2 (λ x. has x d ≡ true → has (F.acks k u) d ≡ true) F.acks m t (with (F.acks m t) c) k u
      (λ y v e. or_cases (has (F.acks m t) d) (eqb c d) (sym (has_with (F.acks m t) c d) ∙ e)
      (λ w. rw (y, v) w) (λ w. absurd (ne y (sym (eqb-true c d w)))))
      (λ y e. e)) in
      omega arith

  one : T' m c ≤ 1
  unfolding T T' A
  one =
      let f = fresh in
      let z = count_one F.stations (λ u. has (A m u) c) t
      (λ u lu. on_update2 (λ x. has x c ≡ true → u ≡ t) F.acks m t (with (F.acks m t) c) m u
      (λ y v e. v)
      (λ y e. absurd (let w = count_at F.stations (λ u. has (F.acks m u) c) u lu e in omega arith))) in
      omega arith

  receive_lines : LineFacts M (receive F m t c)
  unfolding T T' A receive
  receive_lines =
      record {
        acks_once = λ k d h. by_test (eqb k m && eqb d c)
            (λ e. let z = both_equal k m d c e in rw (z.0, z.1) one)
            (λ e. let z = either_way k d (not_both_equal k m d c e) in let y = X.acks_once k d h in omega arith);
        within = λ k d h p. by_test (eqb k m && eqb d c)
            (λ e. let z = both_equal k m d c e in rw (z.0, z.1) (I.queues m t c q0).is_named_lem)
            (λ e. let z = either_way k d (not_both_equal k m d c e) in X.within k d h (omega arith));
        order = X.order;
        deleted_acked = X.deleted_acked;
        records_held = X.records_held;
        deletes_once = X.deletes_once;
      }

-- the ack list goes to the initiator
module _ (M : Limits) (F : Floor) (m t c : ℕ) (uniq : (m k : ℕ) → Held M F.waiting m → Held M F.waiting k → F.initiator m ≡ F.initiator k → F.number m ≡ F.number k → m ≡ k)
    (H : Held M F.waiting m) (X : LineFacts M F) (lt : t < F.stations) (lc : c < F.carts) (mine : has (F.acks m t) c ≡ true) where
  r0 : Record
  r0 = ack_list (F.number m) (F.acks m t)

  A0 : ℕ → ℕ → ℕ
  A0 = update2 F.acks m t 0

  off : (d u : ℕ) → has (A0 m u) d ≡ cond (eqb u t) false (has (F.acks m u) d)
  unfolding A0
  off d u = rw (eqb_self m) (by_test (eqb u t) (λ e. rw e (has_zero d)) (λ e. rw e))

  acks_moved : (k d : ℕ) → Held M F.waiting k
      → ack_count F.stations F.acked A0 F.initiator F.number (put (between t (F.initiator m)) r0 F.lines) k d ≤ acks_of M F k d
  unfolding A0 r0
  acks_moved k d h =
      let z = count_lines_put_one F.stations (acks_to (F.initiator k) (F.number k) d) t (F.initiator m) r0 F.lines in
      by_test (eqb k m)
      (λ e. let y = eqb-true k m e in
      let v : acks_to (F.initiator m) (F.number m) d t (F.initiator m) r0 ≡ has (F.acks m t) d = rw (eqb_self (F.initiator m), eqb_self (F.number m)) in
      let v' : acks_to (F.initiator k) (F.number k) d t (F.initiator m) r0 ≡ has (F.acks m t) d = rw y v in
      let a = count_off F.stations (λ u. has (F.acks m u) d) t lt in
      let b = count_ext F.stations (λ u. has (A0 m u) d) (λ u. cond (eqb u t) false (has (F.acks m u) d)) (off d) in
      let z' : count_lines F.stations (acks_to (F.initiator m) (F.number m) d) (put (between t (F.initiator m)) r0 F.lines) ≤ count_lines F.stations (acks_to (F.initiator m) (F.number m) d) F.lines + bit (has (F.acks m t) d) =
      rw (v', y) at z in
      rw y (omega arith))
      (λ e. let ne = eqb-false k m e in
      let b = count_ext F.stations (λ u. has (A0 k u) d) (λ u. has (F.acks k u) d) (λ u. rw e) in
      let v : acks_to (F.initiator k) (F.number k) d t (F.initiator m) r0 ≡ false =
      by_test (acks_to (F.initiator k) (F.number k) d t (F.initiator m) r0)
      (λ q. absurd
      (let i = eqb-true (F.initiator m) (F.initiator k) (and_left (eqb (F.initiator m) (F.initiator k)) (eqb (F.number m) (F.number k) && has (F.acks m t) d) q) in
      let q' = and_right (eqb (F.initiator m) (F.initiator k)) (eqb (F.number m) (F.number k) && has (F.acks m t) d) q in
      let n = eqb-true (F.number m) (F.number k) (and_left (eqb (F.number m) (F.number k)) (has (F.acks m t) d) q') in
      ne (uniq k m h H (sym i) (sym n))))
      (λ q. q) in
      let v' : bit (acks_to (F.initiator k) (F.number k) d t (F.initiator m) r0) ≡ 0 = rw v in
      omega arith)

  acks_sent_lines : LineFacts M (send_acks F m t)
  unfolding A0 r0 send_acks
  acks_sent_lines =
      record {
        order = λ s u lu. on_put (DeletesAfter (F.expected u s)) (between t (F.initiator m)) r0 F.lines s u (λ e. deletes_after_quiet (F.expected u s) (F.lines s u) r0 refl (X.order s u lu)) (λ e. X.order s u lu);
        records_held = on_lines_put F.stations (HeldRecord M F) (between t (F.initiator m)) r0 F.lines X.records_held
            (λ i j li lj e. let z = both_equal t i (F.initiator m) j e in (record { m = m; held = H; is_initiator = z.1; is_number = refl }, (c, lc, mine)));
        deletes_once = λ k u h lu. on_put (λ l. count_line (is_delete_of (F.number k)) l ≤ 1) (between t (F.initiator m)) r0 F.lines (F.initiator k) u
            (λ e. let z = count_line_more (is_delete_of (F.number k)) (F.lines (F.initiator k) u) r0 in let y = X.deletes_once k u h lu in omega arith) (λ e. X.deletes_once k u h lu);
        acks_once = λ k d h. let z = acks_moved k d h in let y = X.acks_once k d h in omega arith;
        within = λ k d h p. let z = acks_moved k d h in X.within k d h (omega arith);
        deleted_acked = X.deleted_acked;
      }

-- the ack lists of several rooms go
still_goes : (M : Limits) (F : Floor) (t m k : ℕ) → Goes M F t k → (k ≡ m → ⊥) → Goes M (send_acks F m t) t k
unfolding send_acks
still_goes M F t m k g ne =
    record { held = g.held; here = g.here; come = g.come; one = g.one; has_one = rw (ne_eqb k m ne) g.has_one; on_floor = g.on_floor }

pub send_each_lines : (M : Limits) (F : Floor) (t : ℕ) (l : List ℕ)
    → ((m k : ℕ) → Held M F.waiting m → Held M F.waiting k → F.initiator m ≡ F.initiator k → F.number m ≡ F.number k → m ≡ k)
    → t < F.stations → EachOf (Goes M F t) l → Distinct l → LineFacts M F → LineFacts M (send_each F t l)
unfolding send_each send_acks
send_each_lines M F t [] uniq lt g d X = X
send_each_lines M F t (m ∷ l) uniq lt g d X =
    send_each_lines M (send_acks F m t) t l uniq lt (each_both l (λ k a ne. still_goes M F t m k a ne) g.1 d.0) d.1
    (acks_sent_lines M F m t g.0.one uniq g.0.held X lt g.0.on_floor g.0.has_one)

pub deregister_lines : (M : Limits) (F : Floor) (G : History) (i t c : ℕ) (l : List Record) → F.lines i t ≡ deregister c ∷ l → t < F.stations → c < F.carts → Invariant M F G → LineFacts M F
    → LineFacts M (on_deregister M (on_lines F (behead i t F.lines)) i t c).floor
deregister_lines M F G i t c l e lt lc I X =
    let rooms = completed M (on_lines F (behead i t F.lines)) i t c in
    let X1 = send_each_lines M F t rooms I.one_room lt (all_go M F G i t c (behead i t F.lines) lt I) (completed_distinct M (on_lines F (behead i t F.lines)) i t c) X in
    let h = send_each_head F t rooms i t (deregister c) l e in
    let n : (send_each F t rooms).carts ≡ F.carts = ap (λ (Y : Floor). Y.carts) (send_each_is F t rooms) in
    subst (λ (Y : Floor). LineFacts M Y) (sym (deregister_splits M F i t c l e)) (handed_off_lines M (send_each F t rooms) i t c h.0 h.1 (omega arith) X1)

pub radio_lines : (M : Limits) (F : Floor) (G : History) (m t c : ℕ) → Invariant M F G → LineFacts M F → MayRadio M F t c m → LineFacts M (hand_over M F m t c).floor
unfolding hand_over receive
radio_lines M F G m t c I X may =
    let q = may.queued in
    let R = receive F m t c in
    let XR = receive_lines M F G m t c I X q may.station may.cart in
    let mine : has (R.acks m t) c ≡ true =
    rw (update2_at F.acks m t (with (F.acks m t) c)) (has_with (F.acks m t) c c ∙ or_right (has (F.acks m t) c) (eqb c c) (eqb_self c)) in
    rw (one_at_once M (send_acks_if_all R m t) t c (F.initiator m))
    (on_cond (λ (x : Floor). LineFacts M x) (all_acked R m t)
    (λ e. acks_sent_lines M R m t c I.one_room (I.queues m t c q).held XR may.station may.cart mine)
    (λ e. XR))
