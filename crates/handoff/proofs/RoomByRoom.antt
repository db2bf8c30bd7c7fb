-- A STATION'S ENTRIES CHANGED ROOM BY ROOM: what a loop over the rooms leaves of the queues, and of the copies.
use mathlib.Core.Path.{◌≡◌, refl, sym, ap, ◌∙◌, fun_ext, subst}
use mathlib.Core.Bool.{Bool, true, false, cond, ◌&&◌}
use mathlib.Core.List.{List}
use Prim.Native.Nat.{ℕ, ◌+◌, ◌<◌, ◌≤◌}
use native.Mathlib.Numerals.{add-one}
use native.Mathlib.Omega.{arith}
use lib.Dec.{eqb, ltb}
use lib.ListN.{get_or}
use borrow.Author.Tests.{lt-ltb, le-ltb, eqb-true}
use Rattle.protocol.specs.Folds.{update2}
use Rattle.protocol.specs.CartSets.{has, without}
use Rattle.protocol.proofs.Tests.{by_test, by_lt, and-false, on_update2, eqb_self}
use Rattle.protocol.proofs.SetLaws.{has_zero, without_lt}
use Rattle.sets.proofs.Walk.{nothing_between}
use Rattle.stations.specs.View.{Stations, with_queue, with_copy}
use Rattle.messages.specs.View.{Rooms}
use Rattle.catchup.specs.Naming.{Covers}
use Rattle.handoff.specs.Left.{with_queues, unqueued}
use Rattle.handoff.specs.Struck.{with_copies, struck_copy, struck_in, struck_from}
use Rattle.handoff.proofs.PassedLaws.{same_entry, same_copy, not_named}

-- ENTRIES g m u, of room m at station u: those at station t go by f
module _ (g : ℕ → ℕ → ℕ) (t : ℕ) (f : ℕ → ℕ → ℕ) where
  -- the rooms below n are changed
  abbrev pub changed_to : ℕ → ℕ → ℕ → ℕ
  changed_to n m u = cond (eqb u t && ltb m n) (f m (g m u)) (g m u)

  pub changed_none : g ≡ changed_to 0
  changed_none = fun_ext (λ m. fun_ext (λ u. rw (le-ltb m 0 (omega arith), and-false (eqb u t))))

  -- room n is not changed yet
  not_yet : (n : ℕ) → changed_to n n t ≡ g n t
  not_yet n = rw (le-ltb n n (omega arith), and-false (eqb t t))

  below_more : (m n : ℕ) → (m ≡ n → ⊥) → ltb m n ≡ ltb m (n + 1)
  below_more m n d = by_lt m n (λ l. lt-ltb m n l ∙ sym (lt-ltb m (n + 1) (omega arith))) (λ l. le-ltb m n l ∙ sym (le-ltb m (n + 1) (omega arith)))

  pub changed_one : (n x : ℕ) → x ≡ f n (changed_to n n t) → update2 (changed_to n) n t x ≡ changed_to (n + 1)
  changed_one n x e =
      fun_ext (λ m. fun_ext (λ u. on_update2 (λ (y : ℕ). y ≡ changed_to (n + 1) m u) (changed_to n) n t x m u
      (λ p q. rw (p, q, eqb_self t, lt-ltb n (n + 1) (omega arith)) (e ∙ ap (f n) (not_yet n)))
      (λ h. by_test (eqb u t) (λ q. rw q (ap (λ (b : Bool). cond b (f m (g m u)) (g m u)) (below_more m n (λ p. h p (is_station u q))))) (λ q. rw q))))
    where
      is_station : (u : ℕ) → eqb u t ≡ true → u ≡ t
      is_station u q = eqb-true u t q

  -- a walk over a set of rooms, where f changes nothing in a room that is not in it: the rooms up to the next one are as good as changed
  pub changed_skips : (set k m : ℕ) → k ≤ m → ((r : ℕ) → k ≤ r → r < m → has set r ≡ false)
      → ((r : ℕ) → has set r ≡ false → f r (g r t) ≡ g r t) → changed_to k ≡ changed_to m
  changed_skips set k m next skips same =
      sym (nothing_between changed_to k m next
      (λ r l h. ap changed_to (sym (add-one r)) ∙ sym (kept r (same r (skips r l h)))))
    where
      kept : (r : ℕ) → f r (g r t) ≡ g r t → changed_to r ≡ changed_to (r + 1)
      kept r e = same_entry (changed_to r) r t ∙ changed_one r (changed_to r r t) (not_yet r ∙ sym e ∙ ap (f r) (sym (not_yet r)))

  -- all rooms are, when nothing is left
  pub changed_all : (set k : ℕ) → ((r : ℕ) → k ≤ r → has set r ≡ false) → ((r : ℕ) → has set r ≡ false → f r (g r t) ≡ g r t)
      → changed_to k ≡ (λ m u. cond (eqb u t) (f m (g m u)) (g m u))
  changed_all set k none same =
      fun_ext (λ m. fun_ext (λ u. by_test (eqb u t)
      (λ q. rw q (by_lt m k
      (λ l. rw (lt-ltb m k l))
      (λ l. rw (le-ltb m k l) (subst (λ (v : ℕ). g m v ≡ f m (g m v)) (sym (eqb-true u t q)) (sym (same m (none m l)))))))
      (λ q. rw q)))

-- no cart leaves an empty set
without_none : (c : ℕ) → without 0 c ≡ 0
without_none c = let z = without_lt 0 0 c (omega arith) in omega arith

-- "the cart leaves every queue entry here"
module _ (S : Stations) (t c : ℕ) where
  -- in the rooms below n
  abbrev pub unqueued_to : ℕ → Stations
  unqueued_to n = with_queues S (changed_to S.queue t (λ m x. without x c) n)

  pub unqueue_none : S ≡ unqueued_to 0
  unqueue_none = ap (with_queues S) (changed_none S.queue t (λ m x. without x c))

  pub unqueue_one : (n q k : ℕ) {T U : Stations} → T ≡ unqueued_to n → q ≡ T.queue n t → k ≡ without q c → U ≡ with_queue T n t k → U ≡ unqueued_to (n + 1)
  unqueue_one n q k e eq ek f =
      f ∙ ap (λ (X : Stations). with_queue X n t k) e
      ∙ ap (with_queues S) (changed_one S.queue t (λ m x. without x c) n k (ek ∙ ap (λ (x : ℕ). without x c) (eq ∙ ap (λ (X : Stations). X.queue n t) e)))

  -- only where there is an entry
  no_entry : (m : ℕ) → S.queue m t ≡ 0 → without (S.queue m t) c ≡ S.queue m t
  no_entry m e = rw e (without_none c)

  module _ (set : ℕ) (empty : (m : ℕ) → has set m ≡ false → S.queue m t ≡ 0) (k : ℕ) {T : Stations} (e : T ≡ unqueued_to k) where
    pub unqueue_skips : (m : ℕ) → k ≤ m → ((r : ℕ) → k ≤ r → r < m → has set r ≡ false) → T ≡ unqueued_to m
    unqueue_skips m next skips =
        e ∙ ap (with_queues S) (changed_skips S.queue t (λ m x. without x c) set k m next skips (λ r z. no_entry r (empty r z)))

    pub unqueue_all : ((r : ℕ) → k ≤ r → has set r ≡ false) → T ≡ unqueued S t c
    unqueue_all none = e ∙ ap (with_queues S) (changed_all S.queue t (λ m x. without x c) set k none (λ r z. no_entry r (empty r z)))

-- "the cart is struck"
module _ (S : Stations) (R : Rooms) (t c : ℕ) (row : List ℕ) where
  -- in the rooms below n
  abbrev pub struck_to : ℕ → Stations
  struck_to n = with_copies S (changed_to S.copy t (struck_copy S R t c row) n)

  pub strike_none : S ≡ struck_to 0
  strike_none = ap (with_copies S) (changed_none S.copy t (struck_copy S R t c row))

  pub strike_one : (n x : ℕ) {T U : Stations} → T ≡ struck_to n → x ≡ struck_copy T R t c row n (T.copy n t) → U ≡ with_copy T n t x → U ≡ struck_to (n + 1)
  strike_one n x e ex f =
      f ∙ ap (λ (X : Stations). with_copy X n t x) e
      ∙ ap (with_copies S) (changed_one S.copy t (struck_copy S R t c row) n x (ex ∙ ap (λ (X : Stations). struck_copy X R t c row n (X.copy n t)) e))

  -- it goes by the initiator's entry of the row
  pub strike_by : (n s : ℕ) {T U : Stations} → T ≡ struck_to n → s ≡ R.initiator n → U ≡ struck_in T R t c n (get_or row s 0) → U ≡ struck_to (n + 1)
  strike_by n s {T} e es f =
      strike_one n _ e refl (f ∙ ap (λ (z : ℕ). struck_in T R t c n (get_or row z 0)) es)

  -- nothing is struck there
  pub strike_kept : (n : ℕ) {T U : Stations} → T ≡ struck_to n → struck_copy T R t c row n (T.copy n t) ≡ T.copy n t → U ≡ T → U ≡ struck_to (n + 1)
  strike_kept n {T} e k f = strike_one n (T.copy n t) e (sym k) (f ∙ same_copy T n t)

  -- at station t, where the cart is past the message
  by_both : (m u : ℕ) → cond (eqb u t) (struck_copy S R t c row m (S.copy m u)) (S.copy m u) ≡ (struck_from S R t c row).copy m u
  by_both m u = by_test (eqb u t) (λ q. rw q) (λ q. rw q)

  -- only where the copy names the cart
  absent : (m : ℕ) → has (S.copy m t) c ≡ false → struck_copy S R t c row m (S.copy m t) ≡ S.copy m t
  absent m e = not_named S R t row m c (S.copy m t) (has (S.copy m t) c) refl refl e

  module _ (set : ℕ) (others : (m : ℕ) → has set m ≡ false → has (S.copy m t) c ≡ false) (k : ℕ) {T : Stations} (e : T ≡ struck_to k) where
    pub strike_skips : (m : ℕ) → k ≤ m → ((r : ℕ) → k ≤ r → r < m → has set r ≡ false) → T ≡ struck_to m
    strike_skips m next skips =
        e ∙ ap (with_copies S) (changed_skips S.copy t (struck_copy S R t c row) set k m next skips (λ r z. absent r (others r z)))

    pub strike_all : ((r : ℕ) → k ≤ r → has set r ≡ false) → T ≡ struck_from S R t c row
    strike_all none =
        e ∙ ap (with_copies S)
        (changed_all S.copy t (struck_copy S R t c row) set k none (λ r z. absent r (others r z)) ∙ fun_ext (λ m. fun_ext (λ u. by_both m u)))

  -- where no copy names the cart
  pub struck_none : {b : ℕ} → Covers b S t c 0 → S ≡ struck_from S R t c row
  struck_none C = strike_all 0 C.others 0 strike_none (λ r l. has_zero r)
