use mathlib.Core.Path.{refl, sym, ◌∙◌, ◌≡◌}
use mathlib.Core.Bool.{◌&&◌, Bool, cond, false, true}
use mathlib.Core.Option.{Option, none, some}
use mathlib.Core.List.{List, [], ◌∷◌}
use Prim.Native.Nat.{◌<◌, suc, zero, ℕ, ◌≤◌}
use native.Mathlib.Omega.{arith}
use lib.Dec.{eqb, ltb}
use lib.ListN.{get_or, length}
use borrow.Author.Tests.{eq-eqb, eqb-true, le-ltb, lt-ltb, ltb-false, ltb-true}
use Rattle.protocol.specs.Floor.{Floor, Limits, is_buffered}
use Rattle.protocol.specs.Wireless.{head_among, head_with, queue_head, stands_before}
use Rattle.protocol.specs.Deregister.{buffered_rooms, in_order, insert, is_complete, leave}
use Rattle.protocol.proofs.Tests.{and_intro, and_left, and_right, by_eq, by_lt, by_test, clash, on_cond, or_cases, or-false}
use Rattle.protocol.proofs.InOrder.{EachOf, completed, each_map, insert_each, insert_first, those, those_each}
use Rattle.protocol.proofs.Readings.{smallest_number_first}

-- "A queue has one entry per message, smallest number first; between equal numbers the higher initiator stands first."
-- the message in room m is at the front of that in room k
pub record Ahead (F : Floor) (m k : ℕ) : Type 0 where
  pub smallest : F.number m ≤ F.number k
  pub higher : F.number m ≡ F.number k → F.initiator k ≤ F.initiator m

ahead_self : (F : Floor) (m : ℕ) → Ahead F m m
ahead_self F m = record { smallest = omega arith; higher = λ e. omega arith }

pub ahead_trans : (F : Floor) (a b c : ℕ) → Ahead F a b → Ahead F b c → Ahead F a c
ahead_trans F a b c p q =
    record {
      smallest = (let x = p.smallest in let y = q.smallest in omega arith);
      higher = λ e. (let u = p.smallest in let v = q.smallest in let x = p.higher (omega arith) in let y = q.higher (omega arith) in omega arith);
    }

pub stands_ahead : (F : Floor) (m k : ℕ) → stands_before F m k ≡ true → Ahead F m k
stands_ahead F m k e =
    record {
      smallest = smallest_number_first F m k e;
      higher = λ q. or_cases (ltb (F.number m) (F.number k)) (eqb (F.number m) (F.number k) && ltb (F.initiator k) (F.initiator m)) e
          (λ l. let x = ltb-true (F.number m) (F.number k) l in omega arith)
          (λ b. let y = ltb-true (F.initiator k) (F.initiator m) (and_right (eqb (F.number m) (F.number k)) (ltb (F.initiator k) (F.initiator m)) b) in omega arith);
    }

pub stands_behind : (F : Floor) (m k : ℕ) → stands_before F m k ≡ false → Ahead F k m
stands_behind F m k e =
    let z = or-false (ltb (F.number m) (F.number k)) (eqb (F.number m) (F.number k) && ltb (F.initiator k) (F.initiator m)) e in
    let x = ltb-false (F.number m) (F.number k) z.0 in
    record {
      smallest = x;
      higher = λ q. by_lt (F.initiator k) (F.initiator m)
          (λ l. clash (eqb (F.number m) (F.number k) && ltb (F.initiator k) (F.initiator m))
          (and_intro (eqb (F.number m) (F.number k)) (ltb (F.initiator k) (F.initiator m)) (eq-eqb (F.number m) (F.number k) (sym q)) (lt-ltb (F.initiator k) (F.initiator m) l)) z.1)
          (λ l. l);
    }

-- the head among the first n rooms: it has an entry, and is ahead of every entry there; where there is no head, there is no entry
abbrev IsHead : Floor → ℕ → ℕ → Option ℕ → Type 0
IsHead F t n none = (k : ℕ) → k < n → eqb (F.queue k t) 0 ≡ true
IsHead F t n (some m) = (m < n) × ((eqb (F.queue m t) 0 ≡ false) × ((k : ℕ) → k < n → eqb (F.queue k t) 0 ≡ false → Ahead F m k))

one_more : (F : Floor) (t n : ℕ) (o : Option ℕ) → IsHead F t n o → IsHead F t (suc n) (head_with F t n o)
one_more F t n none h =
    on_cond (IsHead F t (suc n)) (eqb (F.queue n t) 0)
    (λ b k l. by_eq k n (λ z. rw z b) (λ z. h k (omega arith)))
    (λ b. (omega arith, (b, λ k l e. by_eq k n (λ z. rw z (ahead_self F n)) (λ z. clash (eqb (F.queue k t) 0) (h k (omega arith)) e))))
one_more F t n (some m) h =
    let low = h.0 in
    on_cond (IsHead F t (suc n)) (eqb (F.queue n t) 0)
    (λ b. (omega arith, (h.1.0, λ k l e. by_eq k n (λ z. clash (eqb (F.queue n t) 0) b (rw z at e)) (λ z. h.1.1 k (omega arith) e))))
    (λ b. on_cond (IsHead F t (suc n)) (stands_before F n m)
    (λ q. let a = stands_ahead F n m q in
    (omega arith, (b, λ k l e. by_eq k n (λ z. rw z (ahead_self F n)) (λ z. ahead_trans F n m k a (h.1.1 k (omega arith) e)))))
    (λ q. let a = stands_behind F n m q in
    (omega arith, (h.1.0, λ k l e. by_eq k n (λ z. rw z a) (λ z. h.1.1 k (omega arith) e)))))

head_is : (F : Floor) (t n : ℕ) → IsHead F t n (head_among F t n)
unfolding head_among
head_is F t zero = λ k l. absurd (omega arith)
head_is F t (suc n) = one_more F t n (head_among F t n) (head_is F t n)

-- the head of the queue at t: it has an entry, and stands ahead of every other
pub head_first : (M : Limits) (F : Floor) (t m : ℕ) → queue_head M F t ≡ some m → (m < M.held) × ((eqb (F.queue m t) 0 ≡ false) × ((k : ℕ) → k < M.held → eqb (F.queue k t) 0 ≡ false → Ahead F m k))
unfolding queue_head
head_first M F t m e = let z = head_is F t M.held in rw e at z

-- where there is no head, there is no entry
pub no_head : (M : Limits) (F : Floor) (t : ℕ) → queue_head M F t ≡ none → (k : ℕ) → k < M.held → eqb (F.queue k t) 0 ≡ true
unfolding queue_head
no_head M F t e = let z = head_is F t M.held in rw e at z

-- ROOMS IN QUEUE ORDER

-- each room of a list is ahead of those behind it
abbrev pub InQueueOrder : Floor → List ℕ → Type 0
InQueueOrder F [] = Unit {0}
InQueueOrder F (m ∷ l) = EachOf (Ahead F m) l × InQueueOrder F l

insert_ordered : (F : Floor) (m : ℕ) (l : List ℕ) → InQueueOrder F l → InQueueOrder F (insert F m l)
unfolding insert
insert_ordered F m [] O = (tt, tt)
insert_ordered F m (k ∷ l) O =
    on_cond (InQueueOrder F) (stands_before F m k)
    (λ e. let a = stands_ahead F m k e in ((a, each_map l (λ j b. ahead_trans F m k j a b) O.0), O))
    (λ e. (insert_each (Ahead F k) F m l (stands_behind F m k e) O.0, insert_ordered F m l O.1))

pub in_queue_order : (F : Floor) (pick : ℕ → Bool) (n : ℕ) → InQueueOrder F (in_order F pick n)
unfolding in_order
in_queue_order F pick zero = tt
in_queue_order F pick (suc n) = on_cond (InQueueOrder F) (pick n) (λ e. insert_ordered F n (in_order F pick n) (in_queue_order F pick n)) (λ e. in_queue_order F pick n)

-- what stands before one stands before all that this is ahead of
pub before_ahead : (F : Floor) (m k j : ℕ) → stands_before F m k ≡ true → Ahead F k j → stands_before F m j ≡ true
before_ahead F m k j e a =
    let x = a.smallest in
    or_cases (ltb (F.number m) (F.number k)) (eqb (F.number m) (F.number k) && ltb (F.initiator k) (F.initiator m)) e
    (λ l. let y = ltb-true (F.number m) (F.number k) l in rw (lt-ltb (F.number m) (F.number j) (omega arith)))
    (λ b. let q = eqb-true (F.number m) (F.number k) (and_left (eqb (F.number m) (F.number k)) (ltb (F.initiator k) (F.initiator m)) b) in
    let y = ltb-true (F.initiator k) (F.initiator m) (and_right (eqb (F.number m) (F.number k)) (ltb (F.initiator k) (F.initiator m)) b) in
    by_lt (F.number k) (F.number j)
    (λ l. rw (lt-ltb (F.number m) (F.number j) (omega arith)))
    (λ l. let w = a.higher (omega arith) in
    rw (le-ltb (F.number m) (F.number j) (omega arith), eq-eqb (F.number m) (F.number j) (omega arith), lt-ltb (F.initiator j) (F.initiator m) (omega arith))))

-- those of a list in order that pass are in order
those_insert : (F : Floor) (p : ℕ → Bool) (m : ℕ) (l : List ℕ) → InQueueOrder F l → those p (insert F m l) ≡ cond (p m) (insert F m (those p l)) (those p l)
unfolding insert
those_insert F p m [] O = refl
those_insert F p m (k ∷ l) O =
    by_test (stands_before F m k)
    (λ e. let before : EachOf (λ j. stands_before F m j ≡ true) (k ∷ l) = (e, each_map l (λ j a. before_ahead F m k j e a) O.0) in
    let first = insert_first F m (those p (k ∷ l)) (each_map (those p (k ∷ l)) (λ j h. h.0) (those_each (λ j. stands_before F m j ≡ true) p (k ∷ l) before)) in
    by_test (p m) (λ q. rw (e, q) (sym first)) (λ q. rw (e, q)))
    (λ e. rw (e, those_insert F p m l O.1) (by_test (p k) (λ r. by_test (p m) (λ q. rw (r, q, e)) (λ q. rw (r, q))) (λ r. by_test (p m) (λ q. rw (r, q)) (λ q. rw (r, q)))))

pub in_order_those : (F : Floor) (pick p : ℕ → Bool) (n : ℕ) → those p (in_order F pick n) ≡ in_order F (λ m. pick m && p m) n
unfolding in_order
in_order_those F pick p zero = refl
in_order_those F pick p (suc n) =
    by_test (pick n)
    (λ e. rw e (those_insert F p n (in_order F pick n) (in_queue_order F pick n) ∙ rw (in_order_those F pick p n)))
    (λ e. rw e (in_order_those F pick p n))

-- so the lists that go in a deregister step are those that are complete once the cart has left, in the order of their messages
pub completed_is : (M : Limits) (F : Floor) (i t c : ℕ) → completed M F i t c ≡ in_order F (λ m. is_buffered F m t && is_complete (leave F i t c) t m) M.held
unfolding completed buffered_rooms
completed_is M F i t c = in_order_those F (λ m. is_buffered F m t) (is_complete (leave F i t c) t) M.held

each_at : (P : ℕ → Type 0) (l : List ℕ) → EachOf P l → (p : ℕ) → p < length l → P (get_or l p 0)
each_at P [] a p h = absurd (omega arith)
each_at P (m ∷ l) a zero h = a.0
each_at P (m ∷ l) a (suc p) h = each_at P l a.1 p (omega arith)

ahead_at : (F : Floor) (l : List ℕ) → InQueueOrder F l → (p q : ℕ) → p < q → q < length l → Ahead F (get_or l p 0) (get_or l q 0)
ahead_at F [] O p q h b = absurd (omega arith)
ahead_at F (m ∷ l) O p zero h b = absurd (omega arith)
ahead_at F (m ∷ l) O zero (suc q) h b = each_at (Ahead F m) l O.0 q (omega arith)
ahead_at F (m ∷ l) O (suc p) (suc q) h b = ahead_at F l O.1 p q (omega arith) (omega arith)

-- the rooms that a deregister step tests: whichever comes sooner is ahead
pub tested_in_order : (M : Limits) (F : Floor) (t p q : ℕ) → p < q → q < length (buffered_rooms M F t) → Ahead F (get_or (buffered_rooms M F t) p 0) (get_or (buffered_rooms M F t) q 0)
unfolding buffered_rooms
tested_in_order M F t p q h b = ahead_at F (buffered_rooms M F t) (in_queue_order F (λ m. is_buffered F m t) M.held) p q h b
