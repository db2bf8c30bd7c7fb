-- THE OCTETS TAKEN: how the sums go on, and what the texts take that begin before an offset.
use mathlib.Core.Path.{◌≡◌, sym, ap, ◌∙◌}
use mathlib.Core.Bool.{Bool, true, false, cond}
use Prim.Native.Nat.{ℕ, ◌+◌, ◌≤◌, ◌<◌, max}
use native.Mathlib.Numerals.{add-one}
use native.Mathlib.Omega.{arith}
use lib.Dec.{ltb}
use borrow.Author.Tests.{lt-ltb, le-ltb, ne_eqb}
use Rattle.protocol.specs.Folds.{update, sum}
use Rattle.protocol.proofs.Tests.{by_test, by_lt, by_eq, eqb_self}
use Rattle.protocol.proofs.Counting.{sum_ext, sum_nil, sum_bump, sum_mono}
use Rattle.messages.specs.View.{Rooms}
use Rattle.store.specs.Texts.{is_stored}
use Rattle.store.specs.Layout.{taken_by, used_in, used_before, end_of, end_in}

-- ONE ROOM MORE

pub used_one : (m : ℕ) (R : Rooms) → used_in (m + 1) R ≡ used_in m R + taken_by R m
unfolding sum
used_one m R = rw add-one

pub end_one : (m : ℕ) (R : Rooms) → end_in (m + 1) R ≡ max (end_in m R) (end_of R m)
unfolding end_in
end_one m R = rw add-one

-- what is counted of a room counts nothing where its text is not in the store
pub taken_none : (R : Rooms) (k : ℕ) (b : Bool) → is_stored R k ≡ false → cond b (taken_by R k) 0 ≡ 0
taken_none R k b n = by_test b (λ e. rw (e, n)) (λ e. rw e)

-- THE OCTETS OF THE TEXTS THAT BEGIN BEFORE x

module _ (h : ℕ) (R : Rooms) where
  -- the same texts, the same octets
  pub same_used : (x y : ℕ) → ((k : ℕ) → k < h → is_stored R k ≡ true → ltb (R.offset k) x ≡ ltb (R.offset k) y) → used_before h R x ≡ used_before h R y
  same_used x y e =
      sum_ext h (λ k. cond (ltb (R.offset k) x) (taken_by R k) 0) (λ k. cond (ltb (R.offset k) y) (taken_by R k) 0)
      (λ k l. by_test (is_stored R k)
      (λ s. ap (λ (b : Bool). cond b (taken_by R k) 0) (e k l s))
      (λ n. taken_none R k (ltb (R.offset k) x) n ∙ sym (taken_none R k (ltb (R.offset k) y) n)))

  pub used_nothing : used_before h R 0 ≡ 0
  used_nothing = sum_nil h (λ k. cond (ltb (R.offset k) 0) (taken_by R k) 0) (λ k l. rw (le-ltb (R.offset k) 0 (omega arith)))

  pub used_all : (x : ℕ) → ((k : ℕ) → k < h → is_stored R k ≡ true → R.offset k < x) → used_before h R x ≡ used_in h R
  used_all x all =
      sum_ext h (λ k. cond (ltb (R.offset k) x) (taken_by R k) 0) (taken_by R)
      (λ k l. by_test (is_stored R k)
      (λ s. rw (lt-ltb (R.offset k) x (all k l s)))
      (λ n. taken_none R k (ltb (R.offset k) x) n ∙ sym (ap (λ (b : Bool). cond b (R.length k) 0) n)))

  -- a text ends, when it is moved, before the place of every later one
  pub used_next : (m x : ℕ) → m < h → is_stored R m ≡ true → R.offset m < x → used_before h R (R.offset m) + R.length m ≤ used_before h R x
  used_next m x lm s l =
      let bump = sum_bump h (update f m (R.length m)) f m (R.length m) lm (λ k lk ne. rw (ne_eqb k m ne)) own in
      let more = sum_mono h (update f m (R.length m)) g (λ k lk. by_eq k m (λ e. rw (e, eqb_self m) its) (λ ne. rw (ne_eqb k m ne) (other k))) in
      omega arith
    where
      f : ℕ → ℕ
      f k = cond (ltb (R.offset k) (R.offset m)) (taken_by R k) 0

      g : ℕ → ℕ
      g k = cond (ltb (R.offset k) x) (taken_by R k) 0

      own : update f m (R.length m) m ≡ R.length m + f m
      own = let z : f m ≡ 0 = rw (le-ltb (R.offset m) (R.offset m) (omega arith)) in rw (eqb_self m) (omega arith)

      its : R.length m ≤ g m
      its = rw (lt-ltb (R.offset m) x l, s) (omega arith)

      other : (k : ℕ) → f k ≤ g k
      other k =
          by_lt (R.offset k) (R.offset m)
          (λ e. rw (lt-ltb (R.offset k) (R.offset m) e, lt-ltb (R.offset k) x (omega arith)) (omega arith))
          (λ e. rw (le-ltb (R.offset k) (R.offset m) e) (omega arith))
