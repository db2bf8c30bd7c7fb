-- THE STATIONS WITHOUT COPIES OF A MESSAGE, cleared one station after the other.
use mathlib.Core.Path.{◌≡◌, refl, ap}
use mathlib.Core.Bool.{Bool, cond, ◌&&◌}
use mathlib.Core.List.{List}
use Prim.Native.Nat.{ℕ, ◌+◌, ◌*◌, ◌≤◌}
use native.Mathlib.Omega.{arith}
use lib.Dec.{eqb, ltb}
use lib.ListN.{length}
use borrow.Author.Tests.{lt-ltb, le-ltb, eq-eqb, ne_eqb}
use Rattle.protocol.specs.Folds.{update2}
use Rattle.protocol.proofs.Tests.{by_test, by_lt, by_eq, and-false}
use Rattle.stations.specs.View.{Stations, stations_in}
use Rattle.stations.proofs.TableLaws.{copy_past, acks_past, queue_past}
use Rattle.wired_send.specs.Copies.{without_copy, without_copies}

-- ONE TABLE of a word for each room and station

-- room m has none at the first n stations
abbrev cleared_to : ℕ → ℕ → (ℕ → ℕ → ℕ) → ℕ → ℕ → ℕ
cleared_to m n f k t = cond (eqb k m && ltb t n) 0 (f k t)

module _ (m : ℕ) (f : ℕ → ℕ → ℕ) (k t : ℕ) where
  to_none : f k t ≡ cleared_to m 0 f k t
  to_none = rw (le-ltb t 0 (omega arith), and-false (eqb k m)) refl

  to_more : (n : ℕ) → update2 (cleared_to m n f) m n 0 k t ≡ cleared_to m (n + 1) f k t
  to_more n =
      by_test (eqb k m)
      (λ e. by_eq t n
      (λ q. rw (e, eq-eqb t n q, lt-ltb t (n + 1) (omega arith)) refl)
      (λ q. rw (e, ne_eqb t n q) (ap (λ (b : Bool). cond b 0 (f k t)) (more q))))
      (λ e. rw e refl)
    where
      more : (t ≡ n → ⊥) → ltb t n ≡ ltb t (n + 1)
      more q = by_lt t n (λ l. rw (lt-ltb t n l, lt-ltb t (n + 1) (omega arith)) refl) (λ g. rw (le-ltb t n g, le-ltb t (n + 1) (omega arith)) refl)

  to_all : (n : ℕ) → (n ≤ t → f k t ≡ 0) → cleared_to m n f k t ≡ cond (eqb k m) 0 (f k t)
  to_all n past =
      by_test (eqb k m)
      (λ e. by_lt t n
      (λ l. rw (e, lt-ltb t n l) refl)
      (λ g. rw (e, le-ltb t n g) (past g)))
      (λ e. rw e refl)

-- THE STATIONS: the first n are cleared
abbrev pub cleared_stations : ℕ → Stations → ℕ → Stations
cleared_stations n S m =
    record { sent = S.sent; expected = S.expected; local = S.local; copy = cleared_to m n S.copy; acks = cleared_to m n S.acks; queue = cleared_to m n S.queue }

module _ (S : Stations) (m : ℕ) where
  pub cleared_none : S ≡ cleared_stations 0 S m
  cleared_none = λ i. record {
    sent = S.sent;
    expected = S.expected;
    local = S.local;
    copy = λ k t. to_none m S.copy k t i;
    acks = λ k t. to_none m S.acks k t i;
    queue = λ k t. to_none m S.queue k t i;
  }

  pub cleared_more : (n : ℕ) → without_copy (cleared_stations n S m) m n ≡ cleared_stations (n + 1) S m
  cleared_more n = λ i. record {
    sent = S.sent;
    expected = S.expected;
    local = S.local;
    copy = λ k t. to_more m S.copy k t n i;
    acks = λ k t. to_more m S.acks k t n i;
    queue = λ k t. to_more m S.queue k t n i;
  }

-- beyond the rows there is nothing
pub cleared_all : (l : List ℕ) (m n : ℕ) → length l ≤ 116 + n * 116 → cleared_stations n (stations_in l) m ≡ without_copies (stations_in l) m
cleared_all l m n all = λ i. record {
  sent = (stations_in l).sent;
  expected = (stations_in l).expected;
  local = (stations_in l).local;
  copy = λ k t. to_all m (stations_in l).copy k t n (λ g. copy_past l t (omega arith) k) i;
  acks = λ k t. to_all m (stations_in l).acks k t n (λ g. acks_past l t (omega arith) k) i;
  queue = λ k t. to_all m (stations_in l).queue k t n (λ g. queue_past l t (omega arith) k) i;
}
