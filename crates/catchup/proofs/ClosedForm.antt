-- The nearest message is where 01's loop stops.
use mathlib.Core.Path.{◌≡◌, refl, sym, ap, ◌∙◌}
use mathlib.Core.Bool.{true, false, ◌&&◌, not}
use mathlib.Core.Option.{Option, none, some}
use Prim.Native.Nat.{ℕ, zero, suc, ◌+◌, ◌-◌, ◌<◌, ◌≤◌}
use native.Mathlib.Omega.{arith}
use lib.Dec.{eqb, ltb, leb}
use borrow.Author.Tests.{ltb-true, ltb-false, leb-true, le-leb, eqb-true, eq-eqb}
use Rattle.protocol.specs.CartSets.{has}
use Rattle.protocol.specs.Floor.{Limits, Floor, is_held, is_buffered, is_message}
use Rattle.protocol.specs.Handoff.{Stop, buffered_for, catch_up_stop}
use Rattle.protocol.proofs.Tests.{by_test, by_lt, by_eq, by_option_lem, on_cond, clash, and_left, and_right, and_intro, first_none, first_least}
use Rattle.protocol.proofs.CatchUp.{stops_at, catch_up_ascent}
use Rattle.catchup.specs.Nearest.{would_stop, nearer_with, nearest_among, stop_by}

module _ (F : Floor) (t c s x : ℕ) where
  -- the nearest among the first n rooms: no other that would stop the cart has a smaller number, nor the same one in an earlier room
  abbrev pub IsNearest : ℕ → Option ℕ → Type 0
  IsNearest n none = (m : ℕ) → m < n → would_stop F t c s x m ≡ false
  IsNearest n (some k) = (k < n) × ((would_stop F t c s x k ≡ true) × ((m : ℕ) → m < n → would_stop F t c s x m ≡ true → (F.number k ≤ F.number m) × (F.number m ≡ F.number k → k ≤ m)))

  one_more : (n : ℕ) (o : Option ℕ) → IsNearest n o → IsNearest (suc n) (nearer_with F t c s x n o)
  one_more n none h =
      on_cond (IsNearest (suc n)) (would_stop F t c s x n)
      (λ b. (omega arith, (b, λ m l e. by_eq m n (λ z. (let y : F.number m ≡ F.number n = rw z in omega arith, λ q. omega arith)) (λ z. clash (would_stop F t c s x m) e (h m (omega arith))))))
      (λ b m l. by_eq m n (λ z. rw z b) (λ z. h m (omega arith)))
  one_more n (some k) h =
      let low = h.0 in
      on_cond (IsNearest (suc n)) (would_stop F t c s x n && ltb (F.number n) (F.number k))
      (λ b. let near = ltb-true (F.number n) (F.number k) (and_right (would_stop F t c s x n) (ltb (F.number n) (F.number k)) b) in (
        omega arith,
        (
          and_left (would_stop F t c s x n) (ltb (F.number n) (F.number k)) b,
          λ m l e. by_eq m n (λ z. (let y : F.number m ≡ F.number n = rw z in omega arith, λ q. omega arith)) (λ z. let r = h.1.1 m (omega arith) e in let a = r.0 in (omega arith, λ q. omega arith)),
        ),
      ))
      (λ b. (
        omega arith,
        (
          h.1.0,
          λ m l e. by_eq m n
              (λ z. let e' : would_stop F t c s x n ≡ true = rw z at e in
              let far = by_lt (F.number n) (F.number k) (λ q. clash (would_stop F t c s x n && ltb (F.number n) (F.number k)) (and_intro (would_stop F t c s x n) (ltb (F.number n) (F.number k)) e' (near_test n k q)) b) (λ q. q) in
              (let y : F.number m ≡ F.number n = rw z in omega arith, λ q. omega arith))
              (λ z. h.1.1 m (omega arith) e),
        ),
      ))
    where
      near_test : (n k : ℕ) → F.number n < F.number k → ltb (F.number n) (F.number k) ≡ true
      near_test n k q = by_test (ltb (F.number n) (F.number k)) (λ e. e) (λ e. absurd (let z = ltb-false (F.number n) (F.number k) e in omega arith))

  pub nearest_is : (n : ℕ) → IsNearest n (nearest_among F t c s x n)
  unfolding nearest_among
  nearest_is zero = λ m l. absurd (omega arith)
  nearest_is (suc n) = one_more n (nearest_among F t c s x n) (nearest_is n)

  -- what would stop the cart, in parts
  pub record Would (m : ℕ) : Type 0 where
    pub held : is_held F m ≡ true
    pub is_initiator : F.initiator m ≡ s
    pub buffered : is_buffered F m t ≡ true
    pub in_copy : has (F.copy m t) c ≡ true
    pub far : x ≤ F.number m

  pub would : (m : ℕ) → would_stop F t c s x m ≡ true → Would m
  unfolding would_stop
  would m e =
      let b = and_right (is_held F m) (eqb (F.initiator m) s && (is_buffered F m t && (has (F.copy m t) c && leb x (F.number m)))) e in
      let d = and_right (eqb (F.initiator m) s) (is_buffered F m t && (has (F.copy m t) c && leb x (F.number m))) b in
      let f = and_right (is_buffered F m t) (has (F.copy m t) c && leb x (F.number m)) d in
      record {
        held = and_left (is_held F m) (eqb (F.initiator m) s && (is_buffered F m t && (has (F.copy m t) c && leb x (F.number m)))) e;
        is_initiator = eqb-true (F.initiator m) s (and_left (eqb (F.initiator m) s) (is_buffered F m t && (has (F.copy m t) c && leb x (F.number m))) b);
        buffered = and_left (is_buffered F m t) (has (F.copy m t) c && leb x (F.number m)) d;
        in_copy = and_left (has (F.copy m t) c) (leb x (F.number m)) f;
        far = leb-true x (F.number m) (and_right (has (F.copy m t) c) (leb x (F.number m)) f);
      }

  pub would_intro : (m : ℕ) → Would m → would_stop F t c s x m ≡ true
  unfolding would_stop
  would_intro m w =
      and_intro (is_held F m) (eqb (F.initiator m) s && (is_buffered F m t && (has (F.copy m t) c && leb x (F.number m)))) w.held
      (and_intro (eqb (F.initiator m) s) (is_buffered F m t && (has (F.copy m t) c && leb x (F.number m))) (eq-eqb (F.initiator m) s w.is_initiator)
      (and_intro (is_buffered F m t) (has (F.copy m t) c && leb x (F.number m)) w.buffered
      (and_intro (has (F.copy m t) c) (leb x (F.number m)) w.in_copy (le-leb x (F.number m) w.far))))

-- a stop is its two parts
pub same_stop : (r : Stop) (u : ℕ) (o : Option ℕ) → r.upto ≡ u → r.found ≡ o → r ≡ record { upto = u; found = o }
same_stop r u o p q = λ i. record { upto = p i; found = q i }

module _ (M : Limits) (F : Floor) (t c s : ℕ) where
  -- a message that stops the loop at a number from the cart's next on would stop the cart
  stops_would : (n m : ℕ) → F.next c s ≤ n → buffered_for M F t c s n ≡ some m → (m < M.held) × ((would_stop F t c s (F.next c s) m ≡ true) × (F.number m ≡ n))
  stops_would n m l e =
      let p = stops_at M F t c s n m e in (
        p.held.slot,
        (
          would_intro F t c s (F.next c s) m
              (record { held = ap not p.held.some; is_initiator = p.is_initiator; buffered = p.buffered; in_copy = p.in_copy; far = (let y = p.is_number in omega arith) }),
          p.is_number,
        ),
      )

  -- a message that would stop the cart stops the loop at its number
  would_stops : (k : ℕ) → k < M.held → would_stop F t c s (F.next c s) k ≡ true → buffered_for M F t c s (F.number k) ≡ none → ⊥
  unfolding buffered_for
  would_stops k l w e =
      let p = would F t c s (F.next c s) k w in
      clash (is_message F s (F.number k) k && (is_buffered F k t && has (F.copy k t) c))
      (and_intro (is_message F s (F.number k) k) (is_buffered F k t && has (F.copy k t) c)
      (and_intro (is_held F k) (eqb (F.initiator k) s && eqb (F.number k) (F.number k)) p.held
      (and_intro (eqb (F.initiator k) s) (eqb (F.number k) (F.number k)) (eq-eqb (F.initiator k) s p.is_initiator) (eq-eqb (F.number k) (F.number k) refl)))
      (and_intro (is_buffered F k t) (has (F.copy k t) c) p.buffered p.in_copy))
      (first_none M.held (λ m. is_message F s (F.number k) m && (is_buffered F m t && has (F.copy m t) c)) e k l)

  closed_none : ((m : ℕ) → m < M.held → would_stop F t c s (F.next c s) m ≡ false) → catch_up_stop M F t c s ≡ record { upto = F.next c s + (F.expected t s - F.next c s); found = none }
  closed_none h =
      let r = catch_up_stop M F t c s in
      let a = catch_up_ascent M F t c s in
      by_option_lem r.found
      (λ q. same_stop r (F.next c s + (F.expected t s - F.next c s)) none (a.end q) q)
      (λ m q. let p = stops_would r.upto m a.from (a.stop m q) in clash (would_stop F t c s (F.next c s) m) p.1.0 (h m p.0))

  closed_some : (k : ℕ) → k < M.held → would_stop F t c s (F.next c s) k ≡ true
      → ((m : ℕ) → m < M.held → would_stop F t c s (F.next c s) m ≡ true → (F.number k ≤ F.number m) × (F.number m ≡ F.number k → k ≤ m))
      → catch_up_stop M F t c s ≡ record { upto = F.number k; found = some k }
  unfolding buffered_for
  closed_some k l w h =
      let r = catch_up_stop M F t c s in
      let a = catch_up_ascent M F t c s in
      let p = would F t c s (F.next c s) k w in
      let far = p.far in
      let low : F.number k < F.expected t s =
      (let z = ltb-true (F.number k) (F.expected t (F.initiator k)) (and_right (has (F.waiting k) t) (ltb (F.number k) (F.expected t (F.initiator k))) p.buffered) in rw p.is_initiator at z) in
      by_option_lem r.found
      (λ q. absurd (would_stops k l w (a.missed (F.number k) far (let e = a.end q in omega arith))))
      (λ m q. let b = stops_would r.upto m a.from (a.stop m q) in
      let g = h m b.0 b.1.0 in
      let at : F.number m ≡ r.upto = b.1.1 in
      let near = g.0 in
      by_lt (F.number k) r.upto
      (λ j. absurd (would_stops k l w (a.missed (F.number k) far j)))
      (λ j. let is : r.upto ≡ F.number k = omega arith in
      let up : k ≤ m = g.1 (at ∙ is) in
      let down : m ≤ k = by_lt k m
      (λ v. clash (is_message F s r.upto k && (is_buffered F k t && has (F.copy k t) c))
      (and_intro (is_message F s r.upto k) (is_buffered F k t && has (F.copy k t) c)
      (and_intro (is_held F k) (eqb (F.initiator k) s && eqb (F.number k) r.upto) p.held
      (and_intro (eqb (F.initiator k) s) (eqb (F.number k) r.upto) (eq-eqb (F.initiator k) s p.is_initiator) (eq-eqb (F.number k) r.upto (sym is))))
      (and_intro (is_buffered F k t) (has (F.copy k t) c) p.buffered p.in_copy))
      (first_least M.held (λ m. is_message F s r.upto m && (is_buffered F m t && has (F.copy m t) c)) m (a.stop m q) k v))
      (λ v. v) in
      let same : m ≡ k = omega arith in
      same_stop r (F.number k) (some k) is (q ∙ ap some same)))

  -- THE CLOSED FORM
  pub closed_form : catch_up_stop M F t c s ≡ stop_by F t s (F.next c s) (nearest_among F t c s (F.next c s) M.held)
  closed_form = by_nearest (nearest_among F t c s (F.next c s) M.held) (nearest_is F t c s (F.next c s) M.held)
    where
      by_nearest : (o : Option ℕ) → IsNearest F t c s (F.next c s) M.held o → catch_up_stop M F t c s ≡ stop_by F t s (F.next c s) o
      by_nearest none h = closed_none h
      by_nearest (some k) h = closed_some k h.0 h.1.0 h.1.1
