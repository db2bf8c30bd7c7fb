-- Rooms in queue order, and the ack lists of several rooms sent one after the other.
use mathlib.Core.Path.{ap, fun_ext, refl, sym, ◌∙◌, ◌≡◌}
use mathlib.Core.Bool.{◌&&◌, Bool, cond, false, not, true, ◌||◌}
use mathlib.Core.List.{◌++◌, List, [], ◌∷◌}
use Prim.Native.Nat.{◌+◌, ◌<◌, ◌≤◌, suc, zero, ℕ}
use native.Mathlib.Omega.{arith}
use lib.Dec.{eqb, ltb}
use lib.ListN.{length}
use borrow.Author.Tests.{eq-eqb, eqb-true, le-ltb, lt-ltb, ne_eqb}
use Rattle.protocol.specs.Folds.{count, update2}
use Rattle.protocol.specs.CartSets.{minus}
use Rattle.protocol.specs.Floor.{Floor, Limits, Record, ack_list, behead, between, deregister, is_buffered, on_lines, push, put, register, set_acks, set_copy}
use Rattle.protocol.specs.Handoff.{row_of}
use Rattle.protocol.specs.Wireless.{all_acked, send_acks, stands_before}
use Rattle.protocol.specs.Deregister.{buffered_rooms, in_order, insert, is_complete, leave, lists_sent, on_deregister, test_each, times_in}
use Rattle.protocol.proofs.Tests.{and-false, and-true, both_equal, by_eq, by_lt, by_test, eqb_self, on_cond, or_swap}

-- LISTS OF ROOMS

-- what is true of each of them
abbrev pub EachOf : (ℕ → Type 0) → List ℕ → Type 0
EachOf P [] = Unit {0}
EachOf P (m ∷ l) = P m × EachOf P l

pub each_map : {P Q : ℕ → Type 0} (l : List ℕ) → ((m : ℕ) → P m → Q m) → EachOf P l → EachOf Q l
each_map [] f a = tt
each_map (m ∷ l) f a = (f m a.0, each_map l f a.1)

pub each_both : {P Q R : ℕ → Type 0} (l : List ℕ) → ((m : ℕ) → P m → Q m → R m) → EachOf P l → EachOf Q l → EachOf R l
each_both [] f a b = tt
each_both (m ∷ l) f a b = (f m a.0 b.0, each_both l f a.1 b.1)

-- no room stands in a list twice
abbrev pub Distinct : List ℕ → Type 0
Distinct [] = Unit {0}
Distinct (m ∷ l) = EachOf (λ k. k ≡ m → ⊥) l × Distinct l

-- is room k in a list
abbrev pub among : ℕ → List ℕ → Bool
among k [] = false
among k (m ∷ l) = eqb k m || among k l

not_among : (m : ℕ) (l : List ℕ) → EachOf (λ k. k ≡ m → ⊥) l → among m l ≡ false
not_among m [] a = refl
not_among m (k ∷ l) a = rw (ne_eqb m k (λ z. a.0 (sym z))) (not_among m l a.1)

-- where none stands twice, a room stands once or not at all
times_once : (m : ℕ) (l : List ℕ) → Distinct l → times_in m l ≡ cond (among m l) 1 0
unfolding times_in
times_once m [] d = refl
times_once m (k ∷ l) d =
    let z = times_once m l d.1 in
    by_eq m k
    (λ q. let gone : among m l ≡ false = rw q (not_among k l d.0) in let none : times_in m l ≡ 0 = rw gone at z in rw (eq-eqb m k q) (omega arith))
    (λ q. rw (ne_eqb m k q) (omega arith))

-- IN QUEUE ORDER

-- the order of rooms is that of their messages' names alone
same_insert : (F H : Floor) (m : ℕ) (l : List ℕ) → ((k : ℕ) → H.number k ≡ F.number k) → ((k : ℕ) → H.initiator k ≡ F.initiator k) → insert H m l ≡ insert F m l
unfolding insert
same_insert F H m [] a b = refl
same_insert F H m (k ∷ l) a b = rw (a m, a k, b m, b k, same_insert F H m l a b)

pub same_order : (F H : Floor) (pick : ℕ → Bool) (n : ℕ) → ((k : ℕ) → H.number k ≡ F.number k) → ((k : ℕ) → H.initiator k ≡ F.initiator k) → in_order H pick n ≡ in_order F pick n
unfolding in_order
same_order F H pick zero a b = refl
same_order F H pick (suc n) a b = rw (same_order F H pick n a b, same_insert F H n (in_order F pick n) a b)

pub insert_each : (P : ℕ → Type 0) (F : Floor) (m : ℕ) (l : List ℕ) → P m → EachOf P l → EachOf P (insert F m l)
unfolding insert
insert_each P F m [] p a = (p, tt)
insert_each P F m (k ∷ l) p a = on_cond (EachOf P) (stands_before F m k) (λ e. (p, a)) (λ e. (a.0, insert_each P F m l p a.1))

insert_distinct : (F : Floor) (m : ℕ) (l : List ℕ) → EachOf (λ k. k ≡ m → ⊥) l → Distinct l → Distinct (insert F m l)
unfolding insert
insert_distinct F m [] n d = (tt, tt)
insert_distinct F m (k ∷ l) n d =
    on_cond Distinct (stands_before F m k) (λ e. (n, d))
    (λ e. (insert_each (λ j. j ≡ k → ⊥) F m l (λ z. n.0 (sym z)) d.0, insert_distinct F m l n.1 d.1))

insert_among : (F : Floor) (k m : ℕ) (l : List ℕ) → among k (insert F m l) ≡ (eqb k m || among k l)
unfolding insert
insert_among F k m [] = refl
insert_among F k m (j ∷ l) =
    by_test (stands_before F m j)
    (λ e. rw e)
    (λ e. rw e (rw (insert_among F k m l) (or_swap (eqb k j) (eqb k m) (among k l))))

-- those that are in the list passed, and were looked at
pub in_order_each : (F : Floor) (pick : ℕ → Bool) (n : ℕ) → EachOf (λ m. (m < n) × (pick m ≡ true)) (in_order F pick n)
unfolding in_order
in_order_each F pick zero = tt
in_order_each F pick (suc n) =
    let a : EachOf (λ m. (m < suc n) × (pick m ≡ true)) (in_order F pick n) = each_map (in_order F pick n) (λ m h. (let z = h.0 in omega arith, h.1)) (in_order_each F pick n) in
    on_cond (EachOf (λ m. (m < suc n) × (pick m ≡ true))) (pick n)
    (λ e. insert_each (λ m. (m < suc n) × (pick m ≡ true)) F n (in_order F pick n) (omega arith, e) a)
    (λ e. a)

-- each once
pub in_order_distinct : (F : Floor) (pick : ℕ → Bool) (n : ℕ) → Distinct (in_order F pick n)
unfolding in_order
in_order_distinct F pick zero = tt
in_order_distinct F pick (suc n) =
    on_cond Distinct (pick n)
    (λ e. insert_distinct F n (in_order F pick n) (each_map (in_order F pick n) (λ m h z. let y = h.0 in omega arith) (in_order_each F pick n)) (in_order_distinct F pick n))
    (λ e. in_order_distinct F pick n)

-- and all of them
pub in_order_among : (F : Floor) (pick : ℕ → Bool) (n k : ℕ) → among k (in_order F pick n) ≡ (ltb k n && pick k)
unfolding in_order
in_order_among F pick zero k = rw (le-ltb k 0 (omega arith))
in_order_among F pick (suc n) k =
    let z = in_order_among F pick n k in
    by_eq k n
    (λ q. rw (q, lt-ltb n (suc n) (omega arith))
    (let y : among n (in_order F pick n) ≡ false = in_order_among F pick n n ∙ rw (le-ltb n n (omega arith)) in
    by_test (pick n)
    (λ e. rw e (insert_among F n n (in_order F pick n) ∙ rw (eqb_self n)))
    (λ e. rw e y)))
    (λ q. let s : ltb k (suc n) ≡ ltb k n = by_lt k n (λ l. lt-ltb k (suc n) (omega arith) ∙ sym (lt-ltb k n l)) (λ l. le-ltb k (suc n) (omega arith) ∙ sym (le-ltb k n l)) in
    rw s
    (by_test (pick n)
    (λ e. rw e (insert_among F k n (in_order F pick n) ∙ rw (ne_eqb k n q) z))
    (λ e. rw e z)))

-- THOSE OF A LIST THAT PASS

abbrev pub those : (ℕ → Bool) → List ℕ → List ℕ
those p [] = []
those p (m ∷ l) = cond (p m) (m ∷ those p l) (those p l)

pub those_each : (P : ℕ → Type 0) (p : ℕ → Bool) (l : List ℕ) → EachOf P l → EachOf (λ m. P m × (p m ≡ true)) (those p l)
those_each P p [] a = tt
those_each P p (m ∷ l) a = on_cond (EachOf (λ m. P m × (p m ≡ true))) (p m) (λ e. ((a.0, e), those_each P p l a.1)) (λ e. those_each P p l a.1)

pub those_distinct : (p : ℕ → Bool) (l : List ℕ) → Distinct l → Distinct (those p l)
those_distinct p [] d = tt
those_distinct p (m ∷ l) d =
    on_cond Distinct (p m) (λ e. (each_map (those p l) (λ k h. h.0) (those_each (λ k. k ≡ m → ⊥) p l d.0), those_distinct p l d.1)) (λ e. those_distinct p l d.1)

pub those_among : (p : ℕ → Bool) (l : List ℕ) (k : ℕ) → among k (those p l) ≡ (among k l && p k)
those_among p [] k = refl
those_among p (m ∷ l) k =
    by_test (p m)
    (λ e. rw (e, those_among p l k) (by_eq k m (λ z. rw (z, eqb_self m, e)) (λ z. rw (ne_eqb k m z))))
    (λ e. rw (e, those_among p l k) (by_eq k m (λ z. rw (z, e) (and-false (among m l) ∙ sym (and-false (eqb m m || among k l)))) (λ z. rw (ne_eqb k m z))))

those_same : (p q : ℕ → Bool) (l : List ℕ) → EachOf (λ k. p k ≡ q k) l → those p l ≡ those q l
those_same p q [] a = refl
those_same p q (m ∷ l) a = rw (a.0, those_same p q l a.1)

-- how many of the rooms in order pass
those_insert : (F : Floor) (p : ℕ → Bool) (m : ℕ) (l : List ℕ) → length (those p (insert F m l)) ≡ cond (p m) 1 0 + length (those p l)
unfolding insert
those_insert F p m [] = by_test (p m) (λ e. rw e) (λ e. rw e)
those_insert F p m (k ∷ l) =
    let z = those_insert F p m l in
    by_test (stands_before F m k)
    (λ e. rw e (by_test (p m) (λ a. rw a (omega arith)) (λ a. rw a (omega arith))))
    (λ e. rw e (by_test (p k) (λ a. rw a (omega arith)) (λ a. rw a (omega arith))))

pub those_count : (F : Floor) (pick p : ℕ → Bool) (n : ℕ) → length (those p (in_order F pick n)) ≡ count n (λ m. pick m && p m)
unfolding in_order count
those_count F pick p zero = refl
those_count F pick p (suc n) =
    let z = those_count F pick p n in
    let one_more : cond (p n) 1 0 + length (those p (in_order F pick n)) ≡ count n (λ m. pick m && p m) + cond (p n) 1 0 = omega arith in
    by_test (pick n) (λ e. rw e (those_insert F p n (in_order F pick n) ∙ one_more)) (λ e. rw e (omega arith))

-- the same test of two floors
pub all_acked_same : (F H : Floor) (m t : ℕ) → H.carts ≡ F.carts → H.place ≡ F.place → H.copy m t ≡ F.copy m t → H.acks m t ≡ F.acks m t → all_acked H m t ≡ all_acked F m t
unfolding all_acked
all_acked_same F H m t k p y a = rw (k, p, y, a)

-- ACK LISTS SENT ONE AFTER THE OTHER

-- the lists of the messages in these rooms go
unfoldable pub send_each : Floor → ℕ → List ℕ → Floor
send_each F t [] = F
send_each F t (m ∷ l) = send_each (send_acks F m t) t l

-- a list that goes is empty
empty_after : (F : Floor) (t m : ℕ) → is_complete (send_acks F m t) t m ≡ false
unfolding is_complete send_acks
empty_after F t m = rw (eqb_self m, eqb_self t)

-- it makes no other complete, nor incomplete
complete_same : (F : Floor) (t m k : ℕ) → (k ≡ m → ⊥) → is_complete (send_acks F m t) t k ≡ is_complete F t k
unfolding is_complete send_acks
complete_same F t m k ne =
    rw (ne_eqb k m ne) (ap (λ (b : Bool). not (eqb (F.acks k t) 0) && b) (all_acked_same F (send_acks F m t) k t refl refl (rw (ne_eqb k m ne)) (rw (ne_eqb k m ne))))

-- so after several have gone, the others are complete that were
complete_after : (F : Floor) (t : ℕ) (l : List ℕ) (k : ℕ) → is_complete (send_each F t l) t k ≡ (is_complete F t k && not (among k l))
unfolding send_each
complete_after F t [] k = sym (and-true (is_complete F t k))
complete_after F t (m ∷ l) k =
    complete_after (send_acks F m t) t l k
    ∙ by_eq k m
    (λ q. rw (q, eqb_self m, empty_after F t m, and-false (is_complete F t m)))
    (λ q. rw (ne_eqb k m q, complete_same F t m k q))

-- and testing one message after the other sends the lists that were complete at first
pub test_each_is : (F : Floor) (t : ℕ) (l : List ℕ) → Distinct l → test_each F t l ≡ send_each F t (those (is_complete F t) l)
unfolding test_each send_each
test_each_is F t [] d = refl
test_each_is F t (m ∷ l) d =
    by_test (is_complete F t m)
    (λ e. rw e (test_each_is (send_acks F m t) t l d.1
    ∙ ap (send_each (send_acks F m t) t) (those_same (is_complete (send_acks F m t) t) (is_complete F t) l (each_map l (λ k ne. complete_same F t m k ne) d.0))))
    (λ e. rw e (test_each_is F t l d.1))

-- and so many
pub lists_sent_is : (F : Floor) (t : ℕ) (l : List ℕ) → Distinct l → lists_sent F t l ≡ length (those (is_complete F t) l)
unfolding lists_sent
lists_sent_is F t [] d = refl
lists_sent_is F t (m ∷ l) d =
    by_test (is_complete F t m)
    (λ e. let z = lists_sent_is (send_acks F m t) t l d.1
    ∙ ap (λ (x : List ℕ). length x) (those_same (is_complete (send_acks F m t) t) (is_complete F t) l (each_map l (λ k ne. complete_same F t m k ne) d.0)) in
    rw e (omega arith))
    (λ e. let z = lists_sent_is F t l d.1 in rw e (omega arith))

-- only copies, ack lists and lines change
pub send_each_is : (F : Floor) (t : ℕ) (l : List ℕ)
    → send_each F t l ≡ on_lines (set_acks (set_copy F (send_each F t l).copy) (send_each F t l).acks) (send_each F t l).lines
unfolding send_each send_acks
send_each_is F t [] = refl
send_each_is F t (m ∷ l) = send_each_is (send_acks F m t) t l

-- the ack lists afterwards
pub acks_after : (F : Floor) (t : ℕ) (l : List ℕ) (k u : ℕ) → (send_each F t l).acks k u ≡ cond (eqb u t && among k l) 0 (F.acks k u)
unfolding send_each send_acks
acks_after F t [] k u = rw (and-false (eqb u t))
acks_after F t (m ∷ l) k u =
    acks_after (send_acks F m t) t l k u
    ∙ by_test (eqb u t)
    (λ e. rw e (by_test (eqb k m) (λ q. rw q (by_test (among k l) (λ r. rw r) (λ r. rw r))) (λ q. rw q)))
    (λ e. rw (e, and-false (eqb k m)))

-- and the copies
pub copy_after : (F : Floor) (t : ℕ) (l : List ℕ) → Distinct l → (k u : ℕ) → (send_each F t l).copy k u ≡ cond (eqb u t && among k l) (minus (F.copy k u) (F.acks k u)) (F.copy k u)
unfolding send_each send_acks
copy_after F t [] d k u = rw (and-false (eqb u t))
copy_after F t (m ∷ l) d k u =
    copy_after (send_acks F m t) t l d.1 k u
    ∙ by_test (eqb u t)
    (λ e. by_eq k m
    (λ q. let is_t = eqb-true u t e in rw (q, is_t, eqb_self t, eqb_self m, not_among m l d.0))
    (λ q. rw (e, ne_eqb k m q)))
    (λ e. rw (e, and-false (eqb k m)))

-- and the lines: each list as it was at first
abbrev pub lists_on : Floor → ℕ → List ℕ → (ℕ → ℕ → List Record) → ℕ → ℕ → List Record
lists_on F t [] lines = lines
lists_on F t (m ∷ l) lines = lists_on F t l (put (between t (F.initiator m)) (ack_list (F.number m) (F.acks m t)) lines)

lists_on_lem : (F H : Floor) (t : ℕ) (l : List ℕ) → Distinct l → H.initiator ≡ F.initiator → H.number ≡ F.number → EachOf (λ k. H.acks k t ≡ F.acks k t) l
    → (send_each H t l).lines ≡ lists_on F t l H.lines
unfolding send_each send_acks
lists_on_lem F H t [] d a b e = refl
lists_on_lem F H t (m ∷ l) d a b e =
    lists_on_lem F (send_acks H m t) t l d.1 a b (each_both l (λ k ne z. rw (ne_eqb k m ne) z) d.0 e.1)
    ∙ ap (lists_on F t l) (rw (a, b, e.0))

pub lines_after : (F : Floor) (t : ℕ) (l : List ℕ) → Distinct l → (send_each F t l).lines ≡ lists_on F t l F.lines
lines_after F t l d = lists_on_lem F F t l d refl refl (all l)
  where
    all : (l : List ℕ) → EachOf (λ k. F.acks k t ≡ F.acks k t) l
    all [] = tt
    all (m ∷ l) = (refl, all l)

-- THE DEREGISTER STEP is: the lists go, and then the cart is handed off

-- the rooms whose ack lists go once cart c has left
unfoldable pub completed : Limits → Floor → ℕ → ℕ → ℕ → List ℕ
completed M F i t c = those (is_complete (leave F i t c) t) (buffered_rooms M F t)

pub buffered_distinct : (M : Limits) (F : Floor) (t : ℕ) → Distinct (buffered_rooms M F t)
unfolding buffered_rooms
buffered_distinct M F t = in_order_distinct F (λ m. is_buffered F m t) M.held

same_rooms : (M : Limits) (F : Floor) (i t c : ℕ) → buffered_rooms M (leave F i t c) t ≡ buffered_rooms M F t
unfolding buffered_rooms leave in_order insert
same_rooms M F i t c = same_order F (leave F i t c) (λ m. is_buffered F m t) M.held (λ m. refl) (λ m. refl)

pub deregister_is : (M : Limits) (F : Floor) (i t c : ℕ)
    → (on_deregister M F i t c).floor ≡ push (send_each (leave F i t c) t (completed M F i t c)) (between t i) (register c (row_of M (F.next c)))
unfolding on_deregister completed
deregister_is M F i t c =
    let left = leave F i t c in
    ap (λ (X : Floor). push X (between t i) (register c (row_of M (F.next c))))
    (test_each_is left t (buffered_rooms M left t) (buffered_distinct M left t) ∙ ap (λ (l : List ℕ). send_each left t (those (is_complete left t) l)) (same_rooms M F i t c))

-- the rooms that are tested: those of the buffered messages, each once
pub tested_once : (M : Limits) (F : Floor) (t m : ℕ) → times_in m (buffered_rooms M F t) ≡ cond (ltb m M.held && is_buffered F m t) 1 0
unfolding buffered_rooms
tested_once M F t m = times_once m (buffered_rooms M F t) (buffered_distinct M F t) ∙ ap (λ (b : Bool). cond b 1 0) (in_order_among F (λ k. is_buffered F k t) M.held m)

-- w: the lists that go, and the register
pub deregister_lists : (M : Limits) (F : Floor) (i t c : ℕ) → (on_deregister M F i t c).report.w ≡ suc (length (completed M F i t c))
unfolding on_deregister completed
deregister_lists M F i t c =
    let left = leave F i t c in
    ap suc (lists_sent_is left t (buffered_rooms M left t) (buffered_distinct M left t) ∙ ap (λ (l : List ℕ). length (those (is_complete left t) l)) (same_rooms M F i t c))

-- those are the lists that are complete once the cart has left
pub deregister_counts : (M : Limits) (F : Floor) (i t c : ℕ)
    → (on_deregister M F i t c).report.w ≡ suc (count M.held (λ m. is_buffered F m t && is_complete (leave F i t c) t m))
unfolding on_deregister buffered_rooms leave
deregister_counts M F i t c =
    let left = leave F i t c in
    ap suc (lists_sent_is left t (buffered_rooms M left t) (buffered_distinct M left t) ∙ those_count left (λ m. is_buffered F m t) (is_complete left t) M.held)

-- no complete list stays
pub none_stays : (M : Limits) (F : Floor) (i t c m : ℕ) → m < M.held → is_buffered F m t ≡ true → is_complete (on_deregister M F i t c).floor t m ≡ false
unfolding completed buffered_rooms is_complete all_acked
none_stays M F i t c m lm b =
    let left = leave F i t c in
    let buffered : among m (buffered_rooms M F t) ≡ true = in_order_among F (λ k. is_buffered F k t) M.held m ∙ rw (lt-ltb m M.held lm, b) in
    let gone : among m (completed M F i t c) ≡ is_complete left t m = those_among (is_complete left t) (buffered_rooms M F t) m ∙ rw buffered in
    ap (λ (X : Floor). is_complete X t m) (deregister_is M F i t c) ∙ complete_after left t (completed M F i t c) m ∙ ap (λ (b : Bool). is_complete left t m && not b) gone
    ∙ not_both (is_complete left t m)
  where
    not_both : (b : Bool) → b && not b ≡ false
    not_both true = refl
    not_both false = refl

-- the hand-off alone
abbrev pub handed_off : Limits → Floor → ℕ → ℕ → ℕ → Floor
handed_off M F i t c = push (leave F i t c) (between t i) (register c (row_of M (F.next c)))

-- a record put on lines, behind a head that is taken off
behead_put : (on : ℕ → ℕ → Bool) (x : Record) (lines : ℕ → ℕ → List Record) (i j : ℕ) (b : Record) (k : List Record) → lines i j ≡ b ∷ k
    → put on x (behead i j lines) ≡ behead i j (put on x lines)
behead_put on x lines i j b k e =
    fun_ext (λ g. fun_ext (λ h. by_test (eqb i g && eqb j h)
    (λ q. let z = both_equal i g j h q in
    let r : lines g h ≡ b ∷ k = rw (← z.0, ← z.1) e in
    rw (q, r) (by_test (on g h) (λ o. rw o) (λ o. rw o)))
    (λ q. rw q)))

put_head : (on : ℕ → ℕ → Bool) (x : Record) (lines : ℕ → ℕ → List Record) (i j : ℕ) (b : Record) (k : List Record) → lines i j ≡ b ∷ k
    → put on x lines i j ≡ b ∷ cond (on i j) (k ++ (x ∷ [])) k
put_head on x lines i j b k e = by_test (on i j) (λ o. rw (o, e)) (λ o. rw (o, e))

-- the head of a line stays where it is
pub send_each_head : (F : Floor) (t : ℕ) (l : List ℕ) (i j : ℕ) (b : Record) (k : List Record) → F.lines i j ≡ b ∷ k → (rest : List Record) × ((send_each F t l).lines i j ≡ b ∷ rest)
unfolding send_each send_acks
send_each_head F t [] i j b k e = (k, e)
send_each_head F t (m ∷ l) i j b k e =
    let on = between t (F.initiator m) in
    let x = ack_list (F.number m) (F.acks m t) in
    send_each_head (send_acks F m t) t l i j b (cond (on i j) (k ++ (x ∷ [])) k) (put_head on x F.lines i j b k e)

then_handed_off : (M : Limits) (F : Floor) (i t c : ℕ) (k : List Record) (l : List ℕ) → F.lines i t ≡ deregister c ∷ k
    → push (send_each (leave (on_lines F (behead i t F.lines)) i t c) t l) (between t i) (register c (row_of M (F.next c)))
    ≡ handed_off M (on_lines (send_each F t l) (behead i t (send_each F t l).lines)) i t c
unfolding send_each send_acks leave
then_handed_off M F i t c k [] e = refl
then_handed_off M F i t c k (m ∷ l) e =
    let on = between t (F.initiator m) in
    let x = ack_list (F.number m) (F.acks m t) in
    let F1 = set_acks (set_copy F (update2 F.copy m t (minus (F.copy m t) (F.acks m t)))) (update2 F.acks m t 0) in
    ap (λ (w : ℕ → ℕ → List Record). push (send_each (leave (on_lines F1 w) i t c) t l) (between t i) (register c (row_of M (F.next c))))
    (behead_put on x F.lines i t (deregister c) k e)
    ∙ then_handed_off M (send_acks F m t) i t c (cond (on i t) (k ++ (x ∷ [])) k) l (put_head on x F.lines i t (deregister c) k e)

-- the step at t, its record come from i
pub deregister_splits : (M : Limits) (F : Floor) (i t c : ℕ) (k : List Record) → F.lines i t ≡ deregister c ∷ k
    → (on_deregister M (on_lines F (behead i t F.lines)) i t c).floor
    ≡ handed_off M (on_lines (send_each F t (completed M (on_lines F (behead i t F.lines)) i t c)) (behead i t (send_each F t (completed M (on_lines F (behead i t F.lines)) i t c)).lines)) i t c
deregister_splits M F i t c k e =
    let Fp = on_lines F (behead i t F.lines) in
    deregister_is M Fp i t c ∙ then_handed_off M F i t c k (completed M Fp i t c) e

-- THE ORDER, ROOM BY ROOM, for a loop that takes the first of those left

-- the rooms that are left without m
abbrev pub without_room : (ℕ → Bool) → ℕ → ℕ → Bool
without_room pick m k = pick k && not (eqb k m)

pub same_picks : (F : Floor) (p q : ℕ → Bool) (n : ℕ) → ((k : ℕ) → k < n → p k ≡ q k) → in_order F p n ≡ in_order F q n
unfolding in_order
same_picks F p q zero h = refl
same_picks F p q (suc n) h = rw (h n (omega arith), same_picks F p q n (λ k l. h k (omega arith)))

-- rooms that do not pass
pub in_order_none : (F : Floor) (pick : ℕ → Bool) (n : ℕ) → ((k : ℕ) → k < n → pick k ≡ false) → in_order F pick n ≡ []
unfolding in_order
in_order_none F pick zero h = refl
in_order_none F pick (suc n) h = rw (h n (omega arith), in_order_none F pick n (λ k l. h k (omega arith)))

pub in_order_beyond : (F : Floor) (pick : ℕ → Bool) (n k : ℕ) → ((m : ℕ) → n ≤ m → pick m ≡ false) → in_order F pick (n + k) ≡ in_order F pick n
unfolding in_order
in_order_beyond F pick n zero h = let z : n + 0 ≡ n = omega arith in ap (in_order F pick) z
in_order_beyond F pick n (suc k) h =
    let z : n + suc k ≡ suc (n + k) = omega arith in
    rw (z, h (n + k) (omega arith)) (in_order_beyond F pick n k h)

-- no more than were looked at
insert_length : (F : Floor) (m : ℕ) (l : List ℕ) → length (insert F m l) ≡ suc (length l)
unfolding insert
insert_length F m [] = refl
insert_length F m (k ∷ l) = by_test (stands_before F m k) (λ e. rw e) (λ e. rw e (ap suc (insert_length F m l)))

pub in_order_few : (F : Floor) (pick : ℕ → Bool) (n : ℕ) → length (in_order F pick n) ≤ n
unfolding in_order
in_order_few F pick zero = omega arith
in_order_few F pick (suc n) =
    let z = in_order_few F pick n in
    on_cond (λ (l : List ℕ). length l ≤ suc n) (pick n) (λ e. let y = insert_length F n (in_order F pick n) in omega arith) (λ e. omega arith)

pub insert_first : (F : Floor) (m : ℕ) (l : List ℕ) → EachOf (λ k. stands_before F m k ≡ true) l → insert F m l ≡ m ∷ l
unfolding insert
insert_first F m [] a = refl
insert_first F m (k ∷ l) a = rw a.0

-- a room that stands before every other that passes, or is found before those whose names are as good, comes first, and behind it come the others in
-- their order
pub in_order_first : (F : Floor) (pick : ℕ → Bool) (n m : ℕ) → m < n → pick m ≡ true
    → ((k : ℕ) → k < n → pick k ≡ true → (k < m → stands_before F m k ≡ true) × (m < k → stands_before F k m ≡ false))
    → in_order F pick n ≡ m ∷ in_order F (without_room pick m) n
unfolding in_order insert
in_order_first F pick zero m lm p h = absurd (omega arith)
in_order_first F pick (suc n) m lm p h =
    by_eq n m
    (λ z. let others : in_order F pick n ≡ in_order F (without_room pick m) n =
    same_picks F pick (without_room pick m) n (λ k l. rw (ne_eqb k m (omega arith)) (sym (and-true (pick k)))) in
    let p' : pick n ≡ true = rw z p in
    let first : insert F n (in_order F pick n) ≡ n ∷ in_order F pick n =
    insert_first F n (in_order F pick n) (each_map (in_order F pick n) (λ k g. let gl = g.0 in let y = (h k (omega arith) g.1).0 (omega arith) in rw z y) (in_order_each F pick n)) in
    let both : n ∷ in_order F pick n ≡ m ∷ in_order F (without_room pick m) n = cc in
    rw (p', eq-eqb n m z) (first ∙ both))
    (λ z. let rest = in_order_first F pick n m (omega arith) p (λ k l q. h k (omega arith) q) in
    by_test (pick n)
    (λ q. rw (q, ne_eqb n m z, rest, (h n (omega arith) q).1 (omega arith)))
    (λ q. rw (q, rest)))
