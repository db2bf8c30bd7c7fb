-- TEXTS THAT LIE RIGHT TAKE NO MORE OCTETS THAN THE STORE HAS: each takes as many as it covers, and no octet is covered twice.
use mathlib.Core.Path.{◌≡◌}
use mathlib.Core.Bool.{Bool, true, cond, ◌&&◌}
use Prim.Native.Nat.{ℕ, zero, suc, ◌+◌, ◌-◌, ◌≤◌, ◌<◌}
use native.Mathlib.Omega.{arith}
use lib.Dec.{ltb, leb}
use borrow.Author.Tests.{ltb-true, lt-ltb, leb-true, le-leb}
use Rattle.protocol.specs.Folds.{sum, count, first}
use Rattle.protocol.specs.Claims.{True}
use Rattle.protocol.proofs.Tests.{by_test, by_lt, by_eq, by_option_lem, and_left, and_right, first_none, first_some}
use Rattle.protocol.proofs.Counting.{sum_mono, sum_swap, sum_le, count_none, count_one}
use Rattle.protocol.proofs.SumSteps.{sum_count}
use Rattle.messages.specs.View.{Rooms}
use Rattle.store.specs.Texts.{is_stored}
use Rattle.store.specs.Layout.{layout_rule, taken_by, used_in}
use Rattle.store.proofs.Apart.{by_apart}

-- octet p is one of the text of room m
covers : Rooms → ℕ → ℕ → Bool
covers R m p = is_stored R m && (leb (R.offset m) p && ltb p (R.offset m + R.length m))

-- of the first n octets, at least k - a are from a on and before e, if k is at most n and e
reach : (a e n k : ℕ) → k ≤ n → k ≤ e → k - a ≤ sum n (λ p. cond (leb a p && ltb p e) 1 0)
unfolding sum
reach a e zero k l g = omega arith
reach a e (suc n) k l g =
    by_lt k (suc n)
    (λ z. let y = reach a e n k (omega arith) g in omega arith)
    (λ z. let y = reach a e n n (omega arith) (omega arith) in
    by_lt n a
    (λ x. omega arith)
    (λ x. rw (le-leb a n x, lt-ltb n e (omega arith)) (omega arith)))

module _ (h : ℕ) (R : Rooms) (right : True (layout_rule h R)) where
  taken_covered : (m : ℕ) → m < h → taken_by R m ≤ sum 4096 (λ p. cond (covers R m p) 1 0)
  unfolding covers
  taken_covered m l =
      by_test (is_stored R m)
      (λ s. rw s (let z = reach (R.offset m) (R.offset m + R.length m) 4096 (R.offset m + R.length m) (right m l s).0.1 (omega arith) in omega arith))
      (λ n. rw n (omega arith))

  covered_in : (m p : ℕ) → covers R m p ≡ true → (is_stored R m ≡ true) × (R.offset m ≤ p) × (p < R.offset m + R.length m)
  unfolding covers
  covered_in m p e =
      let both = and_right (is_stored R m) (leb (R.offset m) p && ltb p (R.offset m + R.length m)) e in (
        and_left (is_stored R m) (leb (R.offset m) p && ltb p (R.offset m + R.length m)) e,
        leb-true (R.offset m) p (and_left (leb (R.offset m) p) (ltb p (R.offset m + R.length m)) both),
        ltb-true p (R.offset m + R.length m) (and_right (leb (R.offset m) p) (ltb p (R.offset m + R.length m)) both),
      )

  covered_once : (p : ℕ) → count h (λ m. covers R m p) ≤ 1
  covered_once p =
      by_option_lem (first h (λ m. covers R m p))
      (λ e. let z = count_none h (λ m. covers R m p) (first_none h (λ m. covers R m p) e) in omega arith)
      (λ t e. let T = first_some h (λ m. covers R m p) t e in
      let w = covered_in t p T.1 in
      count_one h (λ m. covers R m p) t (λ k l c. let v = covered_in k p c in
      by_eq k t (λ q. q) (λ ne. by_apart h R right k t l T.0 v.0 w.0 ne
      (λ x. absurd (omega (arith, v.2, w.1)))
      (λ x. absurd (omega (arith, v.1, w.2))))))

  pub texts_fit : used_in h R ≤ 4096
  texts_fit =
      let most = sum_mono h (taken_by R) (λ m. sum 4096 (λ p. cond (covers R m p) 1 0)) taken_covered in
      let turned = sum_swap h 4096 (λ m p. cond (covers R m p) 1 0) in
      let once = sum_le 4096 1 (λ p. sum h (λ m. cond (covers R m p) 1 0)) (λ p l. let z = sum_count h (λ m. covers R m p) in let y = covered_once p in omega arith) in
      omega arith

-- those of the first rooms no more
pub first_fit : (h : ℕ) (R : Rooms) → True (layout_rule h R) → (m : ℕ) → m ≤ h → used_in m R ≤ 4096
first_fit h R right m l = texts_fit m R (λ k lk. right k (omega arith))
