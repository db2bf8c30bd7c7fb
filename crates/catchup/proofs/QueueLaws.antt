-- A cart queued for several messages.
use mathlib.Core.Path.{◌≡◌, refl, sym, ap, ◌∙◌, fun_ext}
use mathlib.Core.Bool.{Bool, true, false, cond, ◌&&◌, ◌||◌}
use mathlib.Core.List.{List}
use mathlib.Core.Option.{Option, some}
use Prim.Native.Nat.{ℕ, zero, suc, ◌<◌, ◌≤◌, max}
use native.Mathlib.Omega.{arith}
use lib.Dec.{eqb, ltb}
use lib.ListN.{get_or, length, set}
use lib.Seq.{get_or-set_same, get_or-set_other}
use borrow.Author.Tests.{eqb-true, ne_eqb, lt-ltb, le-ltb, ltb-true, ltb-false}
use Rattle.protocol.specs.Folds.{list_of}
use Rattle.protocol.specs.CartSets.{has, with}
use Rattle.protocol.proofs.Tests.{by_test, by_eq, and-false, or_right, or_none, eqb_self, list_of_at}
use Rattle.protocol.proofs.SetLaws.{has_zero, has_with, with_lt, member_below, same_sets}
use Rattle.sets.proofs.Walk.{nothing_between}
use Rattle.stations.specs.View.{Stations, with_queue}
use Rattle.messages.specs.View.{Rooms}
use Rattle.queue.specs.Rooms.{room_at}
use Rattle.queue.specs.Places.{place_among}
use Rattle.queue.proofs.Codes.{room_at_lem, no_room_at}
use Rattle.catchup.specs.Arrival.{is_found, occurs, queued_for, place_found, deepest_to, none_near, Marks}

-- A CART IS QUEUED ONCE

or_twice : (a b : Bool) → ((a || b) || b) ≡ (a || b)
or_twice true b = refl
or_twice false true = refl
or_twice false false = refl

with_twice : (x c : ℕ) → with (with x c) c ≡ with x c
with_twice x c = same_sets (with (with x c) c) (with x c) (λ d. rw (has_with (with x c) c d, has_with x c d) (or_twice (has x d) (eqb c d)))

-- QUEUED FOR WHAT PASSES

-- other queues, entry by entry
same_queues : (S : Stations) (t c : ℕ) (which : ℕ → Bool) (T : Stations) (queue : ℕ → ℕ → ℕ)
    → T ≡ record { sent = S.sent; expected = S.expected; local = S.local; copy = S.copy; acks = S.acks; queue = queue }
    → ((m u : ℕ) → queue m u ≡ (queued_for S t c which).queue m u) → T ≡ queued_for S t c which
same_queues S t c which T queue e h =
    e ∙ (λ i. record { sent = S.sent; expected = S.expected; local = S.local; copy = S.copy; acks = S.acks; queue = λ m u. h m u i })

pub queued_none : (S : Stations) (t c : ℕ) (which : ℕ → Bool) → ((m : ℕ) → which m ≡ false) → S ≡ queued_for S t c which
queued_none S t c which h = same_queues S t c which S S.queue refl (λ m u. rw (h m, and-false (eqb u t)))

pub one_queued : (S : Stations) {T : Stations} (t c h q k : ℕ) → q ≡ S.queue h t → k ≡ with q c → T ≡ with_queue S h t k → T ≡ queued_for S t c (is_found (some h))
one_queued S {T} t c h q k eq ek e =
    same_queues S t c (is_found (some h)) T (with_queue S h t k).queue e
    (λ m u. by_test (eqb m h)
    (λ y. by_test (eqb u t)
    (λ z. rw (y, z) (ek ∙ ap (λ (n : ℕ). with n c) (eq ∙ place m u y z)))
    (λ z. rw (y, z)))
    (λ y. by_test (eqb u t) (λ z. rw (y, z)) (λ z. rw (y, z))))
  where
    place : (m u : ℕ) → eqb m h ≡ true → eqb u t ≡ true → S.queue h t ≡ S.queue m u
    place m u y z = rw (eqb-true m h y, eqb-true u t z)

twice : (x c : ℕ) (b p q : Bool) → cond (b && q) (with (cond (b && p) (with x c) x) c) (cond (b && p) (with x c) x) ≡ cond (b && (p || q)) (with x c) x
twice x c false p q = refl
twice x c true true true = with_twice x c
twice x c true true false = refl
twice x c true false true = refl
twice x c true false false = refl

-- for those that pass one test, then for those that pass another
queued_twice : (S : Stations) (t c : ℕ) (p q : ℕ → Bool) → queued_for (queued_for S t c p) t c q ≡ queued_for S t c (λ m. p m || q m)
queued_twice S t c p q =
    same_queues S t c (λ m. p m || q m) (queued_for (queued_for S t c p) t c q) (queued_for (queued_for S t c p) t c q).queue refl
    (λ m u. twice (S.queue m u) c (eqb u t) (p m) (q m))

-- INITIATOR BY INITIATOR

-- a word says its room
pub said_of : (nearest : List ℕ) (n s m : ℕ) → s < n → m < 32 → get_or nearest s 0 ≡ m → occurs nearest n m ≡ true
unfolding occurs
said_of nearest zero s m l h e = absurd (omega arith)
said_of nearest (suc n) s m l h e =
    by_eq s n
    (λ q. or_right (occurs nearest n m) (is_found (room_at (get_or nearest n 0)) m)
    (let z : get_or nearest n 0 ≡ m = rw q at e in rw (z, room_at_lem m h) (eqb_self m)))
    (λ q. ap (λ (b : Bool). b || is_found (room_at (get_or nearest n 0)) m) (said_of nearest n s m (omega arith) h e))

module _ (S : Stations) (t c : ℕ) (nearest : List ℕ) where
  -- for nobody yet
  pub queued_start : S ≡ queued_for S t c (occurs nearest 0)
  unfolding occurs
  queued_start = queued_none S t c (occurs nearest 0) (λ m. refl)

  -- for one initiator more
  pub queued_next : (s : ℕ) {T U : Stations} → get_or nearest s 0 < 32 → T ≡ queued_for S t c (occurs nearest s) → U ≡ queued_for T t c (is_found (some (get_or nearest s 0))) → U ≡ queued_for S t c (occurs nearest (suc s))
  unfolding occurs
  queued_next s l e f =
      f ∙ ap (λ (X : Stations). queued_for X t c (is_found (some (get_or nearest s 0)))) e
      ∙ ap (λ (o : Option ℕ). queued_for (queued_for S t c (occurs nearest s)) t c (is_found o)) (sym (room_at_lem (get_or nearest s 0) l))
      ∙ queued_twice S t c (occurs nearest s) (is_found (room_at (get_or nearest s 0)))

  -- from one initiator to another, where none between them has found a message
  pub queued_skips : (a b : ℕ) {T : Stations} → a ≤ b → ((s : ℕ) → a ≤ s → s < b → 32 ≤ get_or nearest s 0) → T ≡ queued_for S t c (occurs nearest a) → T ≡ queued_for S t c (occurs nearest b)
  unfolding occurs
  queued_skips a b l h e =
      e ∙ sym (nothing_between (λ k. queued_for S t c (occurs nearest k)) a b l
      (λ s k q. ap (queued_for S t c) (fun_ext (λ m. rw (no_room_at (get_or nearest s 0) (h s k q)) (or_none (occurs nearest s m))))))

  pub deepest_skips : (R : Rooms) (n a b x : ℕ) → a ≤ b → ((s : ℕ) → a ≤ s → s < b → 32 ≤ get_or nearest s 0) → x ≡ deepest_to S R t c n nearest a → x ≡ deepest_to S R t c n nearest b
  unfolding deepest_to
  deepest_skips R n a b x l h e =
      e ∙ sym (nothing_between (λ k. deepest_to S R t c n nearest k) a b l
      (λ s k q. let z : place_found (queued_for S t c (occurs nearest (suc s))) R t n (room_at (get_or nearest s 0)) ≡ 0 = rw (no_room_at (get_or nearest s 0) (h s k q)) refl in omega (arith, z)))

  -- and the largest place with its own
  pub deepest_next : (R : Rooms) (n s x y z : ℕ) {U : Stations} → get_or nearest s 0 < 32 → U ≡ queued_for S t c (occurs nearest (suc s)) → x ≡ deepest_to S R t c n nearest s
      → y ≡ place_among U R t (get_or nearest s 0) n → z ≡ max x y → z ≡ deepest_to S R t c n nearest (suc s)
  unfolding deepest_to
  deepest_next R n s x y z l e p q r =
      let w = q ∙ ap (λ (X : Stations). place_among X R t (get_or nearest s 0) n) e
      ∙ ap (place_found (queued_for S t c (occurs nearest (suc s))) R t n) (sym (room_at_lem (get_or nearest s 0) l)) in
      omega (arith, p, w, r)

-- WHICH INITIATORS HAVE FOUND ONE

pub marks_none : Marks none_near 0
unfolding list_of
marks_none =
    record {
      word = omega arith;
      marked = λ s l. let far : get_or none_near s 0 ≡ 32 = list_of_at 16 (λ k. 32) 0 s l in has_zero s ∙ sym (le-ltb (get_or none_near s 0) 32 (omega (arith, far)));
    }

pub marks_one : (nearest : List ℕ) (found s m : ℕ) → length nearest ≡ 16 → s < 16 → m < 32 → Marks nearest found → Marks (set nearest s m) (with found s)
marks_one nearest found s m long l h M =
    record {
      word = with_lt 16 found s M.word l;
      marked = λ u k. has_with found s u
          ∙ by_eq u s
          (λ q. rw q (or_right (has found s) (eqb s s) (eqb_self s) ∙ sym (ap (λ (x : ℕ). ltb x 32) (get_or-set_same nearest s m 0 (omega (arith, long))) ∙ lt-ltb m 32 h)))
          (λ q. rw (ne_eqb s u (λ e. q (sym e))) (or_none (has found u)) ∙ M.marked u k ∙ ap (λ (x : ℕ). ltb x 32) (sym (get_or-set_other nearest s u m 0 q)));
    }

-- what is not marked has found none
pub not_marked : (nearest : List ℕ) (found s : ℕ) → Marks nearest found → s < 16 → has found s ≡ false → 32 ≤ get_or nearest s 0
not_marked nearest found s M l e = ltb-false (get_or nearest s 0) 32 (sym (M.marked s l) ∙ e)

pub marked_room : (nearest : List ℕ) (found s : ℕ) → Marks nearest found → has found s ≡ true → get_or nearest s 0 < 32
marked_room nearest found s M e = ltb-true (get_or nearest s 0) 32 (sym (M.marked s (member_below 16 found s M.word e)) ∙ e)

pub marks_inside : (nearest : List ℕ) (found : ℕ) → Marks nearest found → (s : ℕ) → has found s ≡ true → s < 16
marks_inside nearest found M s e = member_below 16 found s M.word e
