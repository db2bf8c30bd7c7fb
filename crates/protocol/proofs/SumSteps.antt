-- The sum rule: next numbers rise by receipts and by what p counts.
use mathlib.Core.Path.{ap, refl, sym, ◌∙◌, ◌≡◌}
use mathlib.Core.Bool.{◌&&◌, Bool, cond, false, not, true}
use Prim.Native.Nat.{◌+◌, ◌-◌, ◌<◌, suc, zero, ℕ, ◌≤◌}
use native.Mathlib.Omega.{arith}
use lib.Dec.{eqb, ltb}
use borrow.Author.Tests.{eqb-false, eqb-true, lt-ltb, ne_eqb}
use Rattle.protocol.specs.Folds.{count, sum, update2}
use Rattle.protocol.specs.CartSets.{has}
use Rattle.protocol.specs.Floor.{Floor, Limits, is_buffered, is_held}
use Rattle.protocol.specs.Handoff.{arrive, catch_up_stop, passed_over, struck, with_row}
use Rattle.protocol.specs.Wired.{buffer, passes_over}
use Rattle.protocol.specs.Wireless.{all_acked, hand_over, receive, send_acks, send_acks_if_all}
use Rattle.protocol.specs.SumRule.{total}
use Rattle.protocol.proofs.Tests.{and_left, and_right, by_option_lem, by_test, clash, eqb_self, on_cond, update2_at}
use Rattle.protocol.proofs.SetLaws.{has_without}
use Rattle.protocol.proofs.Invariant.{Held}
use Rattle.protocol.proofs.CatchUp.{arrive_at_once, catch_up_ascent, catch_up_at_once, docked, one_at_once, stops_at}
use Rattle.protocol.proofs.Counting.{sum_add, sum_ext, sum_mono, sum_nil, sum_zero}

-- one place alone adds something
sum_at : (n i a : ℕ) → i < n → sum n (λ k. cond (eqb k i) a 0) ≡ a
unfolding sum
sum_at zero i a h = absurd (omega arith)
sum_at (suc n) i a h =
    by_test (eqb n i)
    (λ e. let y = eqb-true n i e in let z = sum_nil n (λ k. cond (eqb k i) a 0) (λ k l. rw (ne_eqb k i (omega arith))) in rw e (omega arith))
    (λ e. let y : n ≡ i → ⊥ = eqb-false n i e in let z = sum_at n i a (omega arith) in rw e (omega arith))

pub sum_count : (n : ℕ) (f : ℕ → Bool) → sum n (λ k. cond (f k) 1 0) ≡ count n f
unfolding sum count
sum_count zero f = refl
sum_count (suc n) f = let z = sum_count n f in omega arith

-- numbers that rise by d
total_up : (n k : ℕ) (f g d : ℕ → ℕ → ℕ) → ((c s : ℕ) → c < n → s < k → g c s ≡ f c s + d c s)
    → sum n (λ c. sum k (λ s. g c s)) ≡ sum n (λ c. sum k (λ s. f c s)) + sum n (λ c. sum k (λ s. d c s))
total_up n k f g d h =
    sum_ext n (λ c. sum k (λ s. g c s)) (λ c. sum k (λ s. f c s) + sum k (λ s. d c s))
    (λ c lc. sum_ext k (λ s. g c s) (λ s. f c s + d c s) (λ s ls. h c s lc ls) ∙ sum_add k (λ s. f c s) (λ s. d c s))
    ∙ sum_add n (λ c. sum k (λ s. f c s)) (λ c. sum k (λ s. d c s))

-- a row of one cart
row_sum : (n k c : ℕ) (d : ℕ → ℕ) → c < n → sum n (λ x. sum k (λ s. cond (eqb x c) (d s) 0)) ≡ sum k d
row_sum n k c d lc =
    sum_ext n (λ x. sum k (λ s. cond (eqb x c) (d s) 0)) (λ x. cond (eqb x c) (sum k d) 0)
    (λ x lx. by_test (eqb x c) (λ e. rw e) (λ e. rw e (sum_zero k)))
    ∙ sum_at n c (sum k d) lc

-- a cart that is in a copy behind a striking was in it before
not_struck : (F : Floor) (m t c : ℕ) → has ((struck F t c).copy m t) c ≡ true → has (F.copy m t) c ≡ true
unfolding struck
not_struck F m t c =
    on_cond (λ (x : ℕ). has x c ≡ true → has (F.copy m t) c ≡ true) (eqb t t && (is_buffered F m t && ltb (F.number m) (F.next c (F.initiator m))))
    (λ e h. and_left (has (F.copy m t) c) (not (eqb c c)) (sym (has_without (F.copy m t) c c) ∙ h)) (λ e h. h)

-- where an arriving cart's next numbers go
module _ (M : Limits) (F : Floor) (t c : ℕ) (row : ℕ → ℕ) where
  upto : ℕ → ℕ
  upto s = (catch_up_stop M (docked F t c row) t c s).upto

  arrive_next : (d s : ℕ) → (arrive M F t c row).next d s ≡ cond (eqb d c && ltb s F.stations) (upto s) (cond (eqb d c) (row s) (F.next d s))
  unfolding upto struck
  arrive_next d s = ap (λ (X : Floor). X.next d s) (arrive_at_once M F t c row)

  -- they rise, up to the expected number at most
  rises : (s : ℕ) → (row s ≤ upto s) × (upto s ≤ row s + (F.expected t s - row s))
  unfolding upto struck
  rises s =
      let a = catch_up_ascent M (docked F t c row) t c s in
      let e : (docked F t c row).next c s ≡ row s = rw (eqb_self c) in
      let from = a.from in
      let below = a.below in (omega arith, omega arith)

  -- p of an arrival, initiator by initiator
  passed_over_is : passed_over M F t c row ≡ sum F.stations (λ s. upto s - row s)
  unfolding passed_over
  passed_over_is = sum_ext F.stations (λ s. (arrive M F t c row).next c s - row s) (λ s. upto s - row s) (λ s l. rw (arrive_next c s, eqb_self c, lt-ltb s F.stations l))

  -- where no held message has the cart in its copy here, nothing stops the cart below the expected numbers
  stops_nowhere : ((m : ℕ) → Held M F.waiting m → has (F.copy m t) c ≡ true → ⊥) → (s : ℕ) → upto s ≡ row s + (F.expected t s - row s)
  unfolding upto struck
  stops_nowhere none_waits s =
      let a = catch_up_ascent M (docked F t c row) t c s in
      let e : (docked F t c row).next c s ≡ row s = rw (eqb_self c) in
      by_option_lem (catch_up_stop M (docked F t c row) t c s).found
      (λ q. let z = a.end q in omega arith)
      (λ m q. let h = stops_at M (docked F t c row) t c s (upto s) m (a.stop m q) in
      absurd (none_waits m h.held (not_struck (with_row F c row) m t c h.in_copy)))

  passed_over_all : ((m : ℕ) → Held M F.waiting m → has (F.copy m t) c ≡ true → ⊥)
      → passed_over M F t c row ≡ sum F.stations (λ s. F.expected t s - row s)
  passed_over_all none_waits =
      passed_over_is
      ∙ sum_ext F.stations (λ s. upto s - row s) (λ s. F.expected t s - row s) (λ s l. let z = stops_nowhere none_waits s in omega arith)

  -- the sum of all next numbers rises by p
  pub arrive_sum : c < F.carts → ((s : ℕ) → row s ≡ F.next c s) → total (arrive M F t c row) ≡ total F + passed_over M F t c row
  unfolding total struck upto
  arrive_sum lc er =
      ap total (arrive_at_once M F t c row)
      ∙ total_up F.carts F.stations F.next _ (λ x s. cond (eqb x c) (upto s - row s) 0)
      (λ x s lx ls. by_test (eqb x c)
      (λ e. let y = eqb-true x c e in
      let a = (rises s).0 in
      let b = er s in
      rw (lt-ltb s F.stations ls, e, y) (at_stop s a b))
      (λ e. rw e (omega arith)))
      ∙ (let z = row_sum F.carts F.stations c (λ s. upto s - row s) lc in let p = passed_over_is in omega arith)
    where
      at_stop : (s : ℕ) → row s ≤ upto s → row s ≡ F.next c s → upto s ≡ F.next c s + (upto s - row s)
      at_stop s a b = omega arith

  -- in a register step p is at most what was expected and not yet passed
  pub arrive_bound : passed_over M F t c row ≤ sum F.stations (λ s. F.expected t s - row s)
  arrive_bound =
      rw passed_over_is
      (sum_mono F.stations (λ s. upto s - row s) (λ s. F.expected t s - row s) (λ s ls. let a = (rises s).1 in omega arith))

-- a cart that enters where no held message has it in its copy passes over all that its station expects
pub unwaited_over_all : (M : Limits) (F : Floor) (t c : ℕ) → ((m : ℕ) → Held M F.waiting m → has (F.copy m t) c ≡ true → ⊥)
    → (passed_over M F t c (λ s. 0) ≡ sum F.stations (λ s. F.expected t s))
    × ((s : ℕ) → s < F.stations → (arrive M F t c (λ s. 0)).next c s ≡ F.expected t s)
unwaited_over_all M F t c none_waits = (
  passed_over_all M F t c (λ s. 0) none_waits ∙ sum_ext F.stations (λ s. F.expected t s - 0) (λ s. F.expected t s) (λ s l. omega arith),
  λ s l. arrive_next M F t c (λ s. 0) c s ∙ rw (eqb_self c, lt-ltb s F.stations l) (let z = stops_nowhere M F t c (λ s. 0) none_waits s in omega arith),
)

-- so does every cart where no message is held
pub enter_over_all : (M : Limits) (F : Floor) (t c : ℕ) → ((m : ℕ) → m < M.held → is_held F m ≡ false)
    → passed_over M F t c (λ s. 0) ≡ sum F.stations (λ s. F.expected t s)
enter_over_all M F t c none_held = (unwaited_over_all M F t c (λ m h e. clash (is_held F m) (ap not h.some) (none_held m h.slot))).0

-- multicast: p counts the carts that are passed over, by any row
pub multicast_sum : (M : Limits) (F : Floor) (local m s t n : ℕ) → s < F.stations
    → total (buffer F local m t s n) ≡ total F + count F.carts (passes_over F local m s n)
unfolding total buffer
multicast_sum M F local m s t n ls =
    total_up F.carts F.stations F.next (buffer F local m t s n).next (λ c u. cond (eqb u s) (cond (passes_over F local m s n c) 1 0) 0)
    (λ c u lc lu. by_test (eqb u s)
    (λ e. by_test (passes_over F local m s n c)
    (λ q. let y = eqb-true u s e in
    let v = eqb-true (F.next c s) n (and_left (eqb (F.next c s) n) (not (has (F.named m) c)) (and_right (has local c) (eqb (F.next c s) n && not (has (F.named m) c)) q)) in
    rw (e, q, y) (omega arith))
    (λ q. rw (e, q) (omega arith)))
    (λ e. rw e (omega arith)))
    ∙ (let z = sum_ext F.carts (λ c. sum F.stations (λ u. cond (eqb u s) (cond (passes_over F local m s n c) 1 0) 0)) (λ c. cond (passes_over F local m s n c) 1 0)
    (λ c lc. sum_at F.stations s (cond (passes_over F local m s n c) 1 0) ls) in
    let y = sum_count F.carts (passes_over F local m s n) in omega arith)

-- radio: one receipt, and what the catch-up passed over
catch_sum : (M : Limits) (F D : Floor) (s n t c : ℕ) → c < F.carts → s < F.stations → F.next c s ≡ n
    → ((x u : ℕ) → D.next x u ≡ update2 F.next c s (suc n) x u)
    → sum F.carts (λ x. sum F.stations (λ u. (catch_up_at_once M D t c (λ v. eqb v s)).next x u)) ≡ total F + (1 + ((catch_up_at_once M D t c (λ v. eqb v s)).next c s - suc n))
unfolding total
catch_sum M F D s n t c lc ls due en =
    let up = (catch_up_stop M D t c s).upto in
    let a = (catch_up_ascent M D t c s).from in
    let dn : D.next c s ≡ suc n = en c s ∙ update2_at F.next c s (suc n) in
    let top : (catch_up_at_once M D t c (λ v. eqb v s)).next c s ≡ up = rw (eqb_self c, eqb_self s) in
    total_up F.carts F.stations F.next (catch_up_at_once M D t c (λ v. eqb v s)).next (λ x u. cond (eqb x c) (cond (eqb u s) (up - n) 0) 0)
    (λ x u lx lu. by_test (eqb x c)
    (λ e. by_test (eqb u s)
    (λ q. let y = eqb-true x c e in let v = eqb-true u s q in rw (e, q, y, v) (omega arith))
    (λ q. let z : D.next x u ≡ F.next x u = en x u ∙ rw (e, q) in rw (e, q) (omega arith)))
    (λ e. let z : D.next x u ≡ F.next x u = en x u ∙ rw e in rw e (omega arith)))
    ∙ (let z = row_sum F.carts F.stations c (λ u. cond (eqb u s) (up - n) 0) lc in let y = sum_at F.stations s (up - n) ls in omega arith)

pub radio_sum : (M : Limits) (F : Floor) (m t c : ℕ) → c < F.carts → F.initiator m < F.stations → F.next c (F.initiator m) ≡ F.number m
    → total (hand_over M F m t c).floor ≡ total F + (1 + (hand_over M F m t c).report.p)
unfolding hand_over total receive send_acks
radio_sum M F m t c lc li due =
    let s = F.initiator m in
    let R = receive F m t c in
    rw (one_at_once M (send_acks_if_all R m t) t c s)
    (on_cond (λ (D : Floor). total (catch_up_at_once M D t c (λ v. eqb v s)) ≡ total F + (1 + ((catch_up_at_once M D t c (λ v. eqb v s)).next c s - suc (F.number m))))
    (all_acked R m t)
    (λ e. catch_sum M F (send_acks R m t) s (F.number m) t c lc li due (λ x u. refl))
    (λ e. catch_sum M F R s (F.number m) t c lc li due (λ x u. refl)))
