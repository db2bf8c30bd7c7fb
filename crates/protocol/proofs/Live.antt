-- What every floor reached from a start has beside the form rule, and by which a quiet floor holds nothing: a cart that is behind is queued, an
-- acknowledgement is not lost, an ack list waits for somebody, and deletes are on their way.
use mathlib.Core.Path.{ap, refl, sym, ◌∙◌, ◌≡◌}
use mathlib.Core.Bool.{◌&&◌, Bool, cond, false, not, true, ◌||◌}
use mathlib.Core.List.{List, [], ◌∷◌}
use Prim.Native.Nat.{◌<◌, ℕ, ◌≤◌}
use native.Mathlib.Omega.{arith}
use lib.Dec.{eqb, ltb}
use borrow.Author.Tests.{eqb-true, ltb-true, not-false, not-true}
use Rattle.protocol.specs.Folds.{every, update2}
use Rattle.protocol.specs.CartSets.{has, minus, with}
use Rattle.protocol.specs.Floor.{Floor, Limits, Record, ack_list, at, behead, between, entered, is_buffered, is_local, is_message, local_to, on_lines, push, put}
use Rattle.protocol.specs.Handoff.{buffered_for, catch_up_stop}
use Rattle.protocol.specs.Wired.{add_acks}
use Rattle.protocol.specs.Wireless.{all_acked, send_acks}
use Rattle.protocol.specs.Form.{acks_of, acks_to, count_line, is_ack_of, is_delete_of}
use Rattle.protocol.proofs.Tests.{and_intro, and_left, and_right, both_equal, by_lt, by_option_lem, by_test, clash, eqb_self, every_at, every_fails, first_none, not_both_equal, on_cond, on_update2, or_cases, or-false, or_right}
use Rattle.protocol.proofs.SetLaws.{has_minus, has_with, has_zero}
use Rattle.protocol.proofs.FloorLaws.{on_put}
use Rattle.protocol.proofs.InOrder.{EachOf, all_acked_same, send_each}
use Rattle.protocol.proofs.Accepted.{unlined}
use Rattle.protocol.proofs.Invariant.{Held}
use Rattle.protocol.proofs.CatchUp.{catch_up_ascent, catch_up_at_once, found_is_lem, found_is, stops_at}
use Rattle.protocol.proofs.Counting.{count_line_more}
use Rattle.protocol.proofs.PotentialSteps.{acks_sent_stay, acks_unlined, count_lines_put_more}

-- WHAT AN ACK LIST WAITS FOR

-- a local cart in the copy that is not in the list
pub not_complete : (F : Floor) (m t d : ℕ) → d < F.carts → local_to (F.place d) t ≡ true → has (F.copy m t) d ≡ true → has (F.acks m t) d ≡ false
    → all_acked F m t ≡ false
unfolding all_acked
not_complete F m t d ld home in_copy off =
    by_test (every F.carts (λ d. not (is_local F t d && has (F.copy m t) d) || has (F.acks m t) d))
    (λ e. let z = every_at F.carts (λ d. not (is_local F t d && has (F.copy m t) d) || has (F.acks m t) d) e d ld in
    clash false (rw (home, in_copy, off) at z) refl)
    (λ e. e)

-- one that the list waits for
pub waits_for : (F : Floor) (m t : ℕ) → all_acked F m t ≡ false
    → (d : ℕ) × (d < F.carts) × (local_to (F.place d) t ≡ true) × (has (F.copy m t) d ≡ true) × (has (F.acks m t) d ≡ false)
unfolding all_acked
waits_for F m t e =
    let r = every_fails F.carts (λ d. not (is_local F t d && has (F.copy m t) d) || has (F.acks m t) d) e in
    let d = r.0 in
    let z = or-false (not (is_local F t d && has (F.copy m t) d)) (has (F.acks m t) d) r.2 in
    let y = not-false (is_local F t d && has (F.copy m t) d) z.0 in
    (d, r.1, and_left (is_local F t d) (has (F.copy m t) d) y, and_right (is_local F t d) (has (F.copy m t) d) y, z.1)

-- THE INVARIANT; `free` says of which carts and initiators catch-up is still to come
pub record Live (M : Limits) (F : Floor) (free : ℕ → ℕ → Bool) : Type 0 where
  -- a cart is queued only for a message that has come
  pub queue_come : (m t c : ℕ) → has (F.queue m t) c ≡ true → F.number m < F.expected t (F.initiator m)
  -- and in an ack list only of one that has come
  pub acks_come : (m t c : ℕ) → Held M F.waiting m → t < F.stations → has (F.acks m t) c ≡ true → F.number m < F.expected t (F.initiator m)
  -- a local cart that is behind the expected number is queued
  pub behind_queued : (c t s : ℕ) → free c s ≡ false → local_to (F.place c) t ≡ true → F.next c s < F.expected t s
      → (m : ℕ) × (has (F.queue m t) c ≡ true) × (F.initiator m ≡ s)
  -- a local cart that is past a buffered message and still in its copy is in the ack list
  pub passed_listed : (m t c : ℕ) → Held M F.waiting m → t < F.stations → is_buffered F m t ≡ true → local_to (F.place c) t ≡ true
      → has (F.copy m t) c ≡ true
      → F.number m < F.next c (F.initiator m) → has (F.acks m t) c ≡ true
  -- of a named cart that is past a message an acknowledgement stands somewhere
  pub passed_acks : (m c : ℕ) → Held M F.waiting m → has (F.named m) c ≡ true → F.number m < F.next c (F.initiator m) → 0 < acks_of M F m c
  -- a named cart has entered
  pub named_entered : (m c : ℕ) → Held M F.waiting m → has (F.named m) c ≡ true → entered (F.place c) ≡ true
  -- where the whole set has acknowledged, a delete is on its way to each station that has not handled it
  pub deletes_come : (m t : ℕ) → Held M F.waiting m → t < F.stations → F.acked m ≡ F.named m → has (F.waiting m) t ≡ true
      → 0 < count_line (is_delete_of (F.number m)) (F.lines (F.initiator m) t)

-- an ack list at a station waits for somebody
abbrev pub ListsWait : Limits → Floor → Type 0
ListsWait M F = (m t c : ℕ) → Held M F.waiting m → t < F.stations → has (F.acks m t) c ≡ true → all_acked F m t ≡ false

-- none is still to come
abbrev pub never : ℕ → ℕ → Bool
never c s = false

-- other lines
pub lines_live : (M : Limits) (F : Floor) (free : ℕ → ℕ → Bool) (w : ℕ → ℕ → List Record)
    → ((m c : ℕ) → Held M F.waiting m → 0 < acks_of M F m c → 0 < acks_of M (on_lines F w) m c)
    → ((m t : ℕ) → Held M F.waiting m → t < F.stations → 0 < count_line (is_delete_of (F.number m)) (F.lines (F.initiator m) t) → 0 < count_line (is_delete_of (F.number m)) (w (F.initiator m) t))
    → Live M F free → Live M (on_lines F w) free
lines_live M F free w a d L =
    record {
      passed_acks = λ m c h n p. a m c h (L.passed_acks m c h n p);
      deletes_come = λ m t h lt e k. d m t h lt (L.deletes_come m t h lt e k);
      queue_come = L.queue_come;
      acks_come = L.acks_come;
      behind_queued = L.behind_queued;
      passed_listed = L.passed_listed;
      named_entered = L.named_entered;
    }

pub lines_wait : (M : Limits) (F : Floor) (w : ℕ → ℕ → List Record) → ListsWait M F → ListsWait M (on_lines F w)
unfolding all_acked
lines_wait M F w W = W

pub acked_wait : (M : Limits) (F : Floor) (i j m set : ℕ) → ListsWait M F → ListsWait M (add_acks (unlined F i j) m set)
unfolding all_acked
acked_wait M F i j m set W = W

pub caught_up_wait : (M : Limits) (F : Floor) (t c : ℕ) (only : ℕ → Bool) → ListsWait M F → ListsWait M (catch_up_at_once M F t c only)
unfolding all_acked
caught_up_wait M F t c only W = W

-- a head that is neither ack list nor delete goes
rest_deletes : (n : ℕ) (b : Record) (l : List Record) → is_delete_of n b ≡ false → count_line (is_delete_of n) (b ∷ l) ≡ count_line (is_delete_of n) l
rest_deletes n b l e = rw e (omega arith)

pub behead_deletes : (n i j k h : ℕ) (lines : ℕ → ℕ → List Record) (b : Record) (l : List Record) → lines i j ≡ b ∷ l → is_delete_of n b ≡ false
    → count_line (is_delete_of n) (behead i j lines k h) ≡ count_line (is_delete_of n) (lines k h)
behead_deletes n i j k h lines b l e q =
    by_test (eqb i k && eqb j h)
    (λ t. let z = both_equal i k j h t in
    let y : lines k h ≡ b ∷ l = rw (← z.0, ← z.1) e in
    rw (t, y) (sym (rest_deletes n b l q)))
    (λ t. rw t)

-- a record that is put leaves the deletes that are there
pub put_deletes : (n : ℕ) (on : ℕ → ℕ → Bool) (x : Record) (lines : ℕ → ℕ → List Record) (i j : ℕ)
    → count_line (is_delete_of n) (lines i j) ≤ count_line (is_delete_of n) (put on x lines i j)
put_deletes n on x lines i j =
    on_put (λ l. count_line (is_delete_of n) (lines i j) ≤ count_line (is_delete_of n) l) on x lines i j (λ e. let z = count_line_more (is_delete_of n) (lines i j) x in omega arith) (λ e. omega arith)

pub unlined_live : (M : Limits) (F : Floor) (free : ℕ → ℕ → Bool) (i j : ℕ) (b : Record) (l : List Record) → F.lines i j ≡ b ∷ l → i < F.stations
    → j < F.stations
    → ((n c : ℕ) → is_ack_of n c b ≡ false) → ((n : ℕ) → is_delete_of n b ≡ false) → Live M F free → Live M (unlined F i j) free
unlined_live M F free i j b l e li lj na nd L =
    lines_live M F free (behead i j F.lines)
    (λ m c h p. let z = acks_unlined M F i j b l e li lj na m c in omega arith)
    (λ m t h lt p. let z = behead_deletes (F.number m) i j (F.initiator m) t F.lines b l e (nd (F.number m)) in omega arith)
    L

-- a record that is put
pub put_live : (M : Limits) (F : Floor) (free : ℕ → ℕ → Bool) (on : ℕ → ℕ → Bool) (x : Record) → Live M F free → Live M (push F on x) free
put_live M F free on x L =
    lines_live M F free (put on x F.lines)
    (λ m c h p. let z = count_lines_put_more F.stations (acks_to (F.initiator m) (F.number m) c) on x F.lines in omega arith)
    (λ m t h lt p. let z = put_deletes (F.number m) on x F.lines (F.initiator m) t in omega arith)
    L

-- AN ACK LIST GOES
pub acks_sent_live : (M : Limits) (F : Floor) (free : ℕ → ℕ → Bool) (m t : ℕ) → t < F.stations → F.initiator m < F.stations
    → Live M F free → Live M (send_acks F m t) free
unfolding send_acks
acks_sent_live M F free m t lt li L =
    let A = update2 F.acks m t 0 in
    let C = update2 F.copy m t (minus (F.copy m t) (F.acks m t)) in
    let smaller : (k u c : ℕ) → has (A k u) c ≡ true → has (F.acks k u) c ≡ true =
    λ k u c. on_update2 (λ x. has x c ≡ true → has (F.acks k u) c ≡ true) F.acks m t 0 k u (λ y z e. clash (has 0 c) e (has_zero c)) (λ y e. e) in
    record {
      acks_come = λ k u c h lu e. L.acks_come k u c h lu (smaller k u c e);
      passed_listed = λ k u c h lu b home.
          by_test (eqb k m && eqb u t)
          (λ e. let z = both_equal k m u t e in
          rw e (λ y p. let q = sym (has_minus (F.copy m t) (F.acks m t) c) ∙ y in
          let a = and_left (has (F.copy m t) c) (not (has (F.acks m t) c)) q in
          let o = not-true (has (F.acks m t) c) (and_right (has (F.copy m t) c) (not (has (F.acks m t) c)) q) in
          let v = L.passed_listed k u c h lu b home (rw (z.0, z.1) a) p in
          clash (has (F.acks m t) c) (rw (z.0, z.1) at v) o))
          (λ e. rw e (λ y p. L.passed_listed k u c h lu b home y p));
      passed_acks = λ k c h n p. let a = L.passed_acks k c h n p in let b = acks_sent_stay M F m t lt li k c in omega arith;
      deletes_come = λ k u h lu e v. let a = L.deletes_come k u h lu e v in
          let z = put_deletes (F.number k) (between t (F.initiator m)) (ack_list (F.number m) (F.acks m t)) F.lines (F.initiator k) u in
          omega arith;
      queue_come = L.queue_come;
      behind_queued = L.behind_queued;
      named_entered = L.named_entered;
    }

-- the list that goes waits no more, and the others wait as before
pub acks_sent_wait : (M : Limits) (F : Floor) (m t : ℕ)
    → ((k u c : ℕ) → (k ≡ m → u ≡ t → ⊥) → Held M F.waiting k → u < F.stations → has (F.acks k u) c ≡ true → all_acked F k u ≡ false)
    → ListsWait M (send_acks F m t)
unfolding send_acks
acks_sent_wait M F m t W k u c h lu =
    by_test (eqb k m && eqb u t)
    (λ e. rw e (λ y. clash (has 0 c) y (has_zero c)))
    (λ e. rw e (λ y. all_acked_same F (send_acks F m t) k u refl refl (rw e) (rw e) ∙ W k u c (not_both_equal k m u t e) h lu y))

pub send_each_live : (M : Limits) (F : Floor) (free : ℕ → ℕ → Bool) (t : ℕ) (l : List ℕ) → t < F.stations
    → EachOf (λ m. F.initiator m < F.stations) l → Live M F free → Live M (send_each F t l) free
unfolding send_each send_acks
send_each_live M F free t [] lt h L = L
send_each_live M F free t (m ∷ l) lt h L = send_each_live M (send_acks F m t) free t l lt h.1 (acks_sent_live M F free m t lt h.0 L)

pub send_each_wait : (M : Limits) (F : Floor) (t : ℕ) (l : List ℕ) → ListsWait M F → ListsWait M (send_each F t l)
unfolding send_each send_acks
send_each_wait M F t [] W = W
send_each_wait M F t (m ∷ l) W = send_each_wait M (send_acks F m t) t l (acks_sent_wait M F m t (λ k u c ne hk lu e. W k u c hk lu e))

-- CATCH-UP of cart c at t, for the initiators that `only` passes
module _ (M : Limits) (F : Floor) (t c : ℕ) (only : ℕ → Bool) (home : F.place c ≡ at t) (lt : t < F.stations)
    (in_copy : (m : ℕ) → Held M F.waiting m → only (F.initiator m) ≡ true → F.number m < F.expected t (F.initiator m) → has (F.named m) c ≡ true → F.next c (F.initiator m) ≤ F.number m
    → (is_buffered F m t ≡ true) × (has (F.copy m t) c ≡ true)) (L : Live M F (λ d s. eqb d c && only s)) where
  Y : ℕ → ℕ → ℕ
  Y = λ m u. cond (eqb u t && (only (F.initiator m) && found_is (catch_up_stop M F t c (F.initiator m)).found m)) (with (F.queue m u) c) (F.queue m u)

  -- a message that is buffered here with the cart in its copy is not passed over
  not_passed : (m : ℕ) → Held M F.waiting m → is_buffered F m t ≡ true → has (F.copy m t) c ≡ true → F.next c (F.initiator m) ≤ F.number m
      → F.number m < (catch_up_stop M F t c (F.initiator m)).upto → ⊥
  unfolding buffered_for
  not_passed m h b y low high =
      let s = F.initiator m in
      let n = F.number m in
      let e = (catch_up_ascent M F t c s).missed n low high in
      clash (is_message F s n m && (is_buffered F m t && has (F.copy m t) c))
      (and_intro (is_message F s n m) (is_buffered F m t && has (F.copy m t) c)
      (and_intro (not (eqb (F.waiting m) 0)) (eqb s s && eqb n n) (ap not h.some) (and_intro (eqb s s) (eqb n n) (eqb_self s) (eqb_self n)))
      (and_intro (is_buffered F m t) (has (F.copy m t) c) b y))
      (first_none M.held (λ m. is_message F s n m && (is_buffered F m t && has (F.copy m t) c)) e m h.slot)

  -- so what it is past afterwards it was past before
  was_past : (m : ℕ) → Held M F.waiting m → has (F.named m) c ≡ true → only (F.initiator m) ≡ true
      → F.number m < (catch_up_stop M F t c (F.initiator m)).upto → F.number m < F.next c (F.initiator m)
  was_past m h n o high =
      by_lt (F.number m) (F.next c (F.initiator m)) (λ l. l)
      (λ l. absurd (let s = F.initiator m in
      let a = (catch_up_ascent M F t c s).below in
      let b = in_copy m h o (omega arith) n l in not_passed m h b.0 b.1 l high))

  pub catch_up_live : Live M (catch_up_at_once M F t c only) never
  unfolding Y
  catch_up_live =
      record {
        queue_come = λ m u d.
            on_cond (λ x. has x d ≡ true → F.number m < F.expected u (F.initiator m)) (eqb u t && (only (F.initiator m) && found_is (catch_up_stop M F t c (F.initiator m)).found m))
            (λ b e. or_cases (has (F.queue m u) d) (eqb c d) (sym (has_with (F.queue m u) c d) ∙ e)
            (λ q. L.queue_come m u d q)
            (λ q. let s = F.initiator m in
            let f = found_is (catch_up_stop M F t c s).found m in
            let is_t = eqb-true u t (and_left (eqb u t) (only s && f) b) in
            let r = found_is_lem (catch_up_stop M F t c s).found m (and_right (only s) f (and_right (eqb u t) (only s && f) b)) in
            let k = (stops_at M F t c s (catch_up_stop M F t c s).upto m ((catch_up_ascent M F t c s).stop m r)).buffered in
            rw is_t (ltb-true (F.number m) (F.expected t s) (and_right (has (F.waiting m) t) (ltb (F.number m) (F.expected t s)) k))))
            (λ b e. L.queue_come m u d e);
        behind_queued = λ d u s q.
            by_test (eqb d c && only s)
            (λ b. let is_c = eqb-true d c (and_left (eqb d c) (only s) b) in
            let o = and_right (eqb d c) (only s) b in
            λ hm behind.
            let is_t : t ≡ u = eqb-true t u (rw (is_c, home) at hm) in
            let a = catch_up_ascent M F t c s in
            let behind' : (catch_up_stop M F t c s).upto < F.expected t s = rw (b, ← is_t) at behind in
            by_option_lem (catch_up_stop M F t c s).found
            (λ r. absurd (let z = a.end r in omega arith))
            (λ m r. let k = stops_at M F t c s (catch_up_stop M F t c s).upto m (a.stop m r) in
            (m, rw (← is_t, eqb_self t, k.is_initiator, o, r, eqb_self m, is_c) (has_with (F.queue m t) c c ∙ or_right (has (F.queue m t) c) (eqb c c) (eqb_self c)), k.is_initiator)))
            (λ b hm behind.
            let r = L.behind_queued d u s b hm (rw b at behind) in
            (r.0, stays r.0 u d r.1, r.2));
        passed_listed = λ m u d h lu b hm y.
            on_cond (λ x. F.number m < x → has (F.acks m u) d ≡ true) (eqb d c && only (F.initiator m))
            (λ e p. let is_c = eqb-true d c (and_left (eqb d c) (only (F.initiator m)) e) in
            let is_t : t ≡ u = eqb-true t u (rw (is_c, home) at hm) in
            by_lt (F.number m) (F.next d (F.initiator m))
            (λ l. L.passed_listed m u d h lu b hm y l)
            (λ l. absurd (not_passed m h (rw (← is_t) at b) (rw (is_c, ← is_t) at y) (rw is_c at l) p)))
            (λ e p. L.passed_listed m u d h lu b hm y p);
        passed_acks = λ m d h n.
            on_cond (λ x. F.number m < x → 0 < acks_of M F m d) (eqb d c && only (F.initiator m))
            (λ e p. let is_c = eqb-true d c (and_left (eqb d c) (only (F.initiator m)) e) in
            L.passed_acks m d h n (rw is_c (was_past m h (rw is_c at n) (and_right (eqb d c) (only (F.initiator m)) e) p)))
            (λ e p. L.passed_acks m d h n p);
        acks_come = L.acks_come;
        named_entered = L.named_entered;
        deletes_come = L.deletes_come;
      }
    where
      stays : (m u d : ℕ) → has (F.queue m u) d ≡ true → has (Y m u) d ≡ true
      stays m u d e =
          on_cond (λ x. has x d ≡ true) (eqb u t && (only (F.initiator m) && found_is (catch_up_stop M F t c (F.initiator m)).found m))
          (λ b. has_with (F.queue m u) c d ∙ rw e) (λ b. e)
