-- The first of several rooms in queue order, and the head of a queue, room by room.
use mathlib.Core.Path.{◌≡◌, refl, sym, ap, subst, ◌∙◌}
use mathlib.Core.Bool.{Bool, true, false, not}
use mathlib.Core.List.{◌∷◌}
use mathlib.Core.Option.{Option, none, some}
use Prim.Native.Nat.{ℕ, zero, suc, ◌<◌, ◌≤◌}
use native.Mathlib.Omega.{arith}
use lib.Dec.{eqb}
use borrow.Author.Tests.{eq-eqb}
use Rattle.protocol.specs.Floor.{Floor}
use Rattle.protocol.specs.Wireless.{stands_before, head_with, head_among}
use Rattle.protocol.specs.Deregister.{in_order}
use Rattle.protocol.proofs.Tests.{by_eq, by_lt, by_test, clash, on_cond}
use Rattle.protocol.proofs.InOrder.{in_order_first, without_room}
use Rattle.protocol.proofs.QueueOrder.{stands_ahead, stands_behind, before_ahead}
use Rattle.sets.proofs.Walk.{nothing_between}
use Rattle.queue.specs.Keys.{has_entry, first_with, first_among}
use Rattle.queue.proofs.Codes.{Below}

module _ (F : Floor) (pick : ℕ → Bool) where
  -- a room that is not picked changes nothing
  pub first_out : (m : ℕ) (o : Option ℕ) → pick m ≡ false → first_with F pick m o ≡ o
  first_out m none e = rw e
  first_out m (some k) e = rw e

  first_more : (n : ℕ) (o : Option ℕ) → Below n o → Below (suc n) (first_with F pick n o)
  first_more n none h = on_cond (Below (suc n)) (pick n) (λ e. omega arith) (λ e. omega arith)
  first_more n (some k) h =
      on_cond (Below (suc n)) (pick n)
      (λ e. on_cond (Below (suc n)) (stands_before F n k) (λ b. omega arith) (λ b. omega arith))
      (λ e. omega arith)

  pub first_below : (n : ℕ) → Below n (first_among F pick n)
  unfolding first_among
  first_below zero = omega arith
  first_below (suc n) = first_more n (first_among F pick n) (first_below n)

  -- rooms that are not picked
  pub first_skips : (a b : ℕ) → a ≤ b → ((m : ℕ) → a ≤ m → m < b → pick m ≡ false) → first_among F pick b ≡ first_among F pick a
  unfolding first_among
  first_skips a b h out = nothing_between (first_among F pick) a b h (λ m l k. first_out m (first_among F pick m) (out m l k))

  -- WHAT IS FOUND among the first n rooms: a room that is picked and stands before every other such, or is found before those whose names are as
  -- good; or none, where none is picked
  abbrev pub IsFirst : ℕ → Option ℕ → Type 0
  IsFirst n none = (k : ℕ) → k < n → pick k ≡ false
  IsFirst n (some m) = (m < n) × ((pick m ≡ true) × ((k : ℕ) → k < n → pick k ≡ true → (k < m → stands_before F m k ≡ true) × (m < k → stands_before F k m ≡ false)))

  is_more : (n : ℕ) (o : Option ℕ) → IsFirst n o → IsFirst (suc n) (first_with F pick n o)
  is_more n none h =
      on_cond (IsFirst (suc n)) (pick n)
      (λ e. (omega arith, (e, λ k l p. (λ b. clash (pick k) p (h k b), λ b. absurd (omega arith)))))
      (λ e k l. by_eq k n (λ z. rw z e) (λ z. h k (omega arith)))
  is_more n (some m) h =
      let low = h.0 in
      let best = h.1.1 in
      on_cond (IsFirst (suc n)) (pick n)
      (λ e. on_cond (IsFirst (suc n)) (stands_before F n m)
      (λ b. (
        omega arith,
        (
          e,
          λ k l p. (
            λ y. by_lt k m
                (λ u. before_ahead F n m k b (stands_ahead F m k ((best k y p).0 u)))
                (λ u. by_eq k m (λ z. rw z b) (λ z. before_ahead F n m k b (stands_behind F k m ((best k y p).1 (omega arith))))),
            λ y. absurd (omega arith),
          ),
        ),
      ))
      (λ b. (omega arith, (h.1.0, λ k l p. by_eq k n (λ z. (λ y. absurd (omega arith), λ y. rw z b)) (λ z. best k (omega arith) p)))))
      (λ e. (omega arith, (h.1.0, λ k l p. by_eq k n (λ z. clash (pick n) (rw z at p) e) (λ z. best k (omega arith) p))))

  pub first_is : (n : ℕ) → IsFirst n (first_among F pick n)
  unfolding first_among
  first_is zero = λ k l. absurd (omega arith)
  first_is (suc n) = is_more n (first_among F pick n) (first_is n)

  -- what is found comes first in queue order
  pub first_in_order : (n m : ℕ) → first_among F pick n ≡ some m → (m < n) × ((pick m ≡ true) × (in_order F pick n ≡ m ∷ in_order F (without_room pick m) n))
  first_in_order n m e =
      let z : IsFirst n (some m) = subst (IsFirst n) e (first_is n) in
      (z.0, (z.1.0, in_order_first F pick n m z.0 z.1.0 z.1.1))

-- THE HEAD OF A QUEUE is the first of those that have an entry
module _ (F : Floor) (t : ℕ) where
  entry_with : (m : ℕ) (o : Option ℕ) → head_with F t m o ≡ first_with F (has_entry F t) m o
  entry_with m none = by_test (eqb (F.queue m t) 0) (λ e. rw e) (λ e. rw e)
  entry_with m (some k) = by_test (eqb (F.queue m t) 0) (λ e. rw e) (λ e. rw e)

  pub head_is_first : (n : ℕ) → head_among F t n ≡ first_among F (has_entry F t) n
  unfolding head_among first_among
  head_is_first zero = refl
  head_is_first (suc n) = entry_with n (head_among F t n) ∙ ap (first_with F (has_entry F t) n) (head_is_first n)

  pub no_entry : (m : ℕ) → F.queue m t ≡ 0 → has_entry F t m ≡ false
  no_entry m e = ap not (eq-eqb (F.queue m t) 0 e)

  pub head_below : (n : ℕ) → Below n (head_among F t n)
  head_below n = subst (Below n) (sym (head_is_first n)) (first_below F (has_entry F t) n)

  -- rooms without an entry
  pub head_skips : (a b : ℕ) → a ≤ b → ((m : ℕ) → a ≤ m → m < b → F.queue m t ≡ 0) → head_among F t b ≡ head_among F t a
  head_skips a b h empty = head_is_first b ∙ first_skips F (has_entry F t) a b h (λ m l k. no_entry m (empty m l k)) ∙ sym (head_is_first a)
