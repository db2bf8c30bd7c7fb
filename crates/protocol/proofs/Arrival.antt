use mathlib.Core.Path.{ap, refl, sym, ◌∙◌, ◌≡◌}
use mathlib.Core.Bool.{◌&&◌, Bool, cond, false, not, true}
use Prim.Native.Nat.{◌<◌, ℕ, ◌≤◌}
use native.Mathlib.Omega.{arith}
use lib.Dec.{eqb, ltb}
use borrow.Author.Tests.{eq-eqb, eqb-true, ltb-true, ne_eqb}
use Rattle.protocol.specs.CartSets.{has, with, without}
use Rattle.protocol.specs.Floor.{Floor, Limits, at, is_buffered}
use Rattle.protocol.specs.Handoff.{catch_up_stop, struck}
use Rattle.protocol.specs.Form.{multicast_numbers}
use Rattle.protocol.proofs.Tests.{and_intro, and_left, and_right, by_eq, clash, on_cond, or_cases}
use Rattle.protocol.proofs.SetLaws.{has_with, has_without}
use Rattle.protocol.proofs.Invariant.{History, Invariant, Queued, names}
use Rattle.protocol.proofs.Updates.{Rise, copy_changed, counts_up_le, is_home, numbers_rise, received_over}
use Rattle.protocol.proofs.CatchUp.{catch_up_ascent, catch_up_at_once, found_is_lem, found_is, passed_unnamed, stops_at}

-- The arrival of a cart keeps the invariant: it is struck from what it has passed, and catches up.
module _ (M : Limits) (F : Floor) (G : History) (t c : ℕ) (I : Invariant M F G) where
  -- the cart is struck from what it has passed
  pub struck_ok : Invariant M (struck F t c) G
  unfolding struck
  struck_ok =
      copy_changed M F G I (λ m u. cond (passed m u) (without (F.copy m u) c) (F.copy m u))
      (λ m u d h lt e k dd le.
      on_cond (λ x. has x d ≡ true) (passed m u)
      (λ b. has_without (F.copy m u) c d
      ∙ and_intro (has (F.copy m u) d) (not (eqb c d)) (I.copies m u d h lt e k dd le)
      (by_eq c d
      (λ q. absurd
      (let z = ltb-true (F.number m) (F.next c (F.initiator m)) (and_right (is_buffered F m t) (ltb (F.number m) (F.next c (F.initiator m))) (and_right (eqb u t) (is_buffered F m t && ltb (F.number m) (F.next c (F.initiator m))) b)) in
      let le' : F.next c (F.initiator m) ≤ F.number m = rw q le in omega arith))
      (λ q. ap not (ne_eqb c d q))))
      (λ b. I.copies m u d h lt e k dd le))
      (λ m u d h lt.
      on_cond (λ x. has x d ≡ true → has (F.named m) d ≡ true) (passed m u)
      (λ b e. I.within m u d h lt (and_left (has (F.copy m u) d) (not (eqb c d)) (sym (has_without (F.copy m u) c d) ∙ e)))
      (λ b e. I.within m u d h lt e))
    where
      passed : ℕ → ℕ → Bool
      passed m u = eqb u t && (is_buffered F m t && ltb (F.number m) (F.next c (F.initiator m)))

  module _ (only : ℕ → Bool) (lt : t < F.stations) (lc : c < F.carts) (home : F.place c ≡ at t) (idle : (m u : ℕ) → has (F.queue m u) c ≡ true → only (F.initiator m) ≡ true → ⊥) where
    -- the next numbers afterwards
    X : ℕ → ℕ → ℕ
    X = λ d s. cond (eqb d c && only s) (catch_up_stop M F t c s).upto (F.next d s)

    on_X : (P : ℕ → Type 0) (d s : ℕ) → (d ≡ c → only s ≡ true → P (catch_up_stop M F t c s).upto) → ((d ≡ c → only s ≡ true → ⊥) → P (F.next d s)) → P (X d s)
    unfolding X
    on_X P d s p q =
        on_cond P (eqb d c && only s) (λ b. p (eqb-true d c (and_left (eqb d c) (only s) b)) (and_right (eqb d c) (only s) b))
        (λ b. q (λ x y. clash (eqb d c && only s) (and_intro (eqb d c) (only s) (eq-eqb d c x) y) b))

    catch_up_rise : Rise F X
    catch_up_rise =
        record {
          up = λ d s. on_X (λ x. F.next d s ≤ x) d s (λ z o. let a = (catch_up_ascent M F t c s).from in rw z a) (λ q. omega arith);
          cap = λ d s. on_X (λ x. x ≤ F.sent s) d s
              (λ z o. let a = (catch_up_ascent M F t c s).below in let r = counts_up_le (F.expected t s) (multicast_numbers (F.lines s t)) (F.sent s) (I.run s t lt) in let y = I.low c s in omega arith)
              (λ q. I.low d s);
          home = λ d s h. on_X (λ x. x ≡ F.next d s) d s (λ z o. clash (is_home (F.place d)) (rw (z, home)) h) (λ q. refl);
        }

    passes_unnamed : (d s n : ℕ) → F.next d s ≤ n → n < X d s → names (G.sends s) n d ≡ false
    passes_unnamed d s n le =
        on_X (λ x. n < x → names (G.sends s) n d ≡ false) d s
        (λ z o g. let le' : F.next c s ≤ n = rw z at le in
        let a = (catch_up_ascent M F t c s).below in
        rw z (passed_unnamed M F G I t c s n lt lc ((catch_up_ascent M F t c s).missed n (omega arith) g) le' (omega arith)))
        (λ q g. absurd (omega arith))

    stays : (m u d : ℕ) → has (F.queue m u) d ≡ true → Queued M F.waiting F.initiator F.number F.named F.place X m u d
    stays m u d e =
        let q = I.queues m u d e in
        record {
          held = q.held;
          home = q.home;
          is_named_lem = q.is_named_lem;
          due = on_X (λ x. x ≡ F.number m) d (F.initiator m) (λ z o. absurd (idle m u (rw z at e) o)) (λ z. q.due);
        }

    -- the queues afterwards
    Y : ℕ → ℕ → ℕ
    Y = λ m u. cond (eqb u t && (only (F.initiator m) && found_is (catch_up_stop M F t c (F.initiator m)).found m)) (with (F.queue m u) c) (F.queue m u)

    queued_due : (m u d : ℕ) → has (Y m u) d ≡ true → Queued M F.waiting F.initiator F.number F.named F.place X m u d
    unfolding Y
    queued_due m u d =
        let f = found_is (catch_up_stop M F t c (F.initiator m)).found m in
        on_cond (λ x. has x d ≡ true → Queued M F.waiting F.initiator F.number F.named F.place X m u d) (eqb u t && (only (F.initiator m) && f))
        (λ b e.
        or_cases (has (F.queue m u) d) (eqb c d) (sym (has_with (F.queue m u) c d) ∙ e)
        (stays m u d)
        (λ q. let is_c : d ≡ c = sym (eqb-true c d q) in
        let is_t = eqb-true u t (and_left (eqb u t) (only (F.initiator m) && f) b) in
        let b' = and_right (eqb u t) (only (F.initiator m) && f) b in
        let r = found_is_lem (catch_up_stop M F t c (F.initiator m)).found m (and_right (only (F.initiator m)) f b') in
        let k = stops_at M F t c (F.initiator m) (catch_up_stop M F t c (F.initiator m)).upto m ((catch_up_ascent M F t c (F.initiator m)).stop m r) in
        record {
          held = k.held;
          home = rw (is_c, home) (eq-eqb t u (sym is_t));
          is_named_lem = rw is_c (I.within m t c k.held lt k.in_copy);
          due = on_X (λ x. x ≡ F.number m) d (F.initiator m) (λ x y. sym k.is_number) (λ x. absurd (x is_c (and_left (only (F.initiator m)) f b')));
        }))
        (λ b. stays m u d)

    pub catch_up_ok : Invariant M (catch_up_at_once M F t c only) G
    unfolding X Y
    catch_up_ok = numbers_rise M F G X Y G.received catch_up_rise queued_due (received_over M F G X I catch_up_rise passes_unnamed) I
