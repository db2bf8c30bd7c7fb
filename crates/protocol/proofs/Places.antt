-- The place of an entry: 1 for the head, its position in queue order, and at most as many as there are rooms.
use mathlib.Core.Path.{ap, refl, sym, ◌∙◌, ◌≡◌}
use mathlib.Core.Bool.{◌&&◌, Bool, false, not, true}
use mathlib.Core.Option.{some}
use mathlib.Core.List.{List, [], ◌∷◌}
use Prim.Native.Nat.{◌<◌, suc, zero, ℕ, ◌≤◌}
use native.Mathlib.Omega.{arith}
use lib.Dec.{eqb, ltb}
use lib.ListN.{get_or, length}
use borrow.Author.Tests.{eqb-true, le-ltb, lt-ltb, ltb-true, ne_eqb, not-true}
use Rattle.protocol.specs.Folds.{by_option, count}
use Rattle.protocol.specs.CartSets.{union}
use Rattle.protocol.specs.Floor.{Floor, Limits, Record, ack_list, carts_that, delete, deregister, multicast, register}
use Rattle.protocol.specs.Events.{Answer, Done, Event, Report, accepted, enter, flag, group, move, radio, refused, retire, send, send_group, send_long, start, wire}
use Rattle.protocol.specs.Groups.{on_group}
use Rattle.protocol.specs.Order.{place_in, stands_before}
use Rattle.protocol.specs.Handoff.{buffered_for, catch_up, catch_up_each, catch_up_stop, deepest, largest_place, on_enter, on_flag, on_move, on_register, on_retire, place_given, room_of}
use Rattle.protocol.specs.Deregister.{in_order, on_deregister}
use Rattle.protocol.specs.Wired.{handle, is_queued, local_row, multicast_by_row, on_ack_list, on_delete, on_multicast, place_of_new}
use Rattle.protocol.specs.Wireless.{hand_over, queue_head}
use Rattle.protocol.specs.Form.{passes_form}
use Rattle.protocol.specs.Refusals.{refusal, refusal_if}
use Rattle.protocol.specs.Step.{accept, answer}
use Rattle.protocol.specs.Store.{not_long}
use Rattle.protocol.proofs.Tests.{and-false, and_left, and_right, by_eq, by_test, clash, eqb_self, on_cond, on_option, or_cases}
use Rattle.protocol.proofs.SetLaws.{somebody}
use Rattle.protocol.proofs.InOrder.{EachOf, among, each_map, in_order_among, in_order_each, those, those_count}
use Rattle.protocol.proofs.Accepted.{MayWire, accepted_passes, accepted_report, by_step, passed_check, unlined}
use Rattle.protocol.proofs.Invariant.{Held}
use Rattle.protocol.proofs.CatchUp.{catch_up_ascent, catch_up_at_once, each_at_once, room_some, stop_same, stops_at}
use Rattle.protocol.proofs.Counting.{count_le, count_none}
use Rattle.protocol.proofs.FormFacts.{FormFacts}
use Rattle.protocol.proofs.Ready.{unstarted_fails}
use Rattle.protocol.proofs.QueueOrder.{Ahead, InQueueOrder, head_first, in_queue_order}

-- nobody stands before itself
not_before_itself : (F : Floor) (m : ℕ) → stands_before F m m ≡ false
not_before_itself F m = rw (le-ltb (F.number m) (F.number m) (omega arith), eqb_self (F.number m), le-ltb (F.initiator m) (F.initiator m) (omega arith))

-- whoever is ahead of another is not stood before by it
ahead_first : (F : Floor) (m k : ℕ) → Ahead F m k → stands_before F k m ≡ false
ahead_first F m k a =
    let s = a.smallest in
    by_test (stands_before F k m)
    (λ b. or_cases (ltb (F.number k) (F.number m)) (eqb (F.number k) (F.number m) && ltb (F.initiator m) (F.initiator k)) b
    (λ q. absurd (let y = ltb-true (F.number k) (F.number m) q in omega arith))
    (λ q. absurd (let n = eqb-true (F.number k) (F.number m) (and_left (eqb (F.number k) (F.number m)) (ltb (F.initiator m) (F.initiator k)) q) in
    let i = ltb-true (F.initiator m) (F.initiator k) (and_right (eqb (F.number k) (F.number m)) (ltb (F.initiator m) (F.initiator k)) q) in
    let y = a.higher (sym n) in omega arith)))
    (λ b. b)

-- "1 for the head"
pub head_place : (M : Limits) (F : Floor) (t m : ℕ) → queue_head M F t ≡ some m → place_in M F m t ≡ 1
unfolding place_in
head_place M F t m e =
    let h = (head_first M F t m e).1.1 in
    let z = count_none M.held (λ k. not (eqb (F.queue k t) 0) && stands_before F k m)
    (λ k l. by_test (eqb (F.queue k t) 0) (λ b. rw b) (λ b. rw b (ahead_first F m k (h k l b)))) in
    omega arith

-- THE PLACE, AS A POSITION: the entries in queue order, and how many of them stand before one

-- whoever is ahead of another stands before it, if their messages have two names
ahead_before : (F : Floor) (m k : ℕ) → Ahead F m k → (F.number m ≡ F.number k → F.initiator m ≡ F.initiator k → ⊥) → stands_before F m k ≡ true
ahead_before F m k a two =
    let s = a.smallest in
    by_eq (F.number m) (F.number k)
    (λ e. let y = a.higher e in
    rw (e, le-ltb (F.number k) (F.number k) (omega arith), eqb_self (F.number k)) (lt-ltb (F.initiator k) (F.initiator m) (by_eq (F.initiator m) (F.initiator k) (λ z. absurd (two e z)) (λ z. omega arith))))
    (λ e. rw (lt-ltb (F.number m) (F.number k) (omega arith)))

each_among : (P : ℕ → Type 0) (l : List ℕ) (m : ℕ) → EachOf P l → among m l ≡ true → P m
each_among P [] m a e = clash false e refl
each_among P (k ∷ l) m a e = by_eq m k (λ z. rw z a.0) (λ z. each_among P l m a.1 (rw (ne_eqb m k z) at e))

those_none : (p : ℕ → Bool) (l : List ℕ) → EachOf (λ k. p k ≡ false) l → those p l ≡ []
those_none p [] a = refl
those_none p (k ∷ l) a = rw a.0 (those_none p l a.1)

-- a room of such a list stands behind as many as stand before it
at_its_place : (F : Floor) (m d : ℕ) (l : List ℕ) → InQueueOrder F l → EachOf (λ k. (k ≡ m → ⊥) → F.number k ≡ F.number m → F.initiator k ≡ F.initiator m → ⊥) l
    → among m l ≡ true → get_or l (length (those (λ k. stands_before F k m) l)) d ≡ m
at_its_place F m d [] O two e = clash false e refl
at_its_place F m d (k ∷ l) O two e =
    by_eq k m
    (λ z. let O' : EachOf (Ahead F m) l = rw z at O.0 in
    rw (z, not_before_itself F m, those_none (λ k. stands_before F k m) l (each_map l (λ j a. ahead_first F m j a) O')))
    (λ z. let e' : among m l ≡ true = rw (ne_eqb m k (λ y. z (sym y))) at e in
    rw (ahead_before F k m (each_among (Ahead F k) l m O.0 e') (two.0 z)) (at_its_place F m d l O.1 two.1 e'))

-- where one does not pass, fewer than all pass
count_less : (n : ℕ) (f : ℕ → Bool) (k : ℕ) → k < n → f k ≡ false → suc (count n f) ≤ n
unfolding count
count_less zero f k l e = absurd (omega arith)
count_less (suc n) f k l e =
    by_eq k n
    (λ z. let e' : f n ≡ false = rw z at e in let y = count_le n f in rw e' (omega arith))
    (λ z. let y = count_less n f k (omega arith) e in by_test (f n) (λ q. rw q (omega arith)) (λ q. rw q (omega arith)))

-- a place is at most the number of rooms
pub place_most : (M : Limits) (F : Floor) (t m : ℕ) → m < M.held → place_in M F m t ≤ M.held
unfolding place_in
place_most M F t m lm =
    count_less M.held (λ k. not (eqb (F.queue k t) 0) && stands_before F k m) m lm (rw (not_before_itself F m, and-false (not (eqb (F.queue m t) 0))))

given_most : (M : Limits) (F : Floor) (t c s : ℕ) → place_given M F t c s ≤ M.held
unfolding place_given
given_most M F t c s =
    on_option (λ x. x ≤ M.held) (catch_up_stop M F t c s).found (λ e. omega arith)
    (λ m e. place_most M (catch_up M F t c s) t m (stops_at M F t c s (catch_up_stop M F t c s).upto m ((catch_up_ascent M F t c s).stop m e)).held.slot)

largest_most : (M : Limits) (n : ℕ) (F : Floor) (t c : ℕ) → largest_place M n F t c ≤ M.held
unfolding largest_place
largest_most M zero F t c = omega arith
largest_most M (suc n) F t c = let a = largest_most M n F t c in let b = given_most M (catch_up_each M n F t c) t c n in omega arith

-- on a floor with the form rule's facts the entry at place p is the p-th in queue order
module _ (M : Limits) (F : Floor) (X : FormFacts M F) (t : ℕ) where
  entry : ℕ → Bool
  entry k = not (eqb (F.queue k t) 0)

  held_entry : (k : ℕ) → entry k ≡ true → Held M F.waiting k
  unfolding entry
  held_entry k e = let s = somebody (F.queue k t) (not-true (eqb (F.queue k t) 0) e) in (X.queues k t s.0 s.1).held

  pub place_is_position : (m : ℕ) → m < M.held → eqb (F.queue m t) 0 ≡ false → (p d : ℕ) → place_in M F m t ≡ suc p → get_or (in_order F (λ k. not (eqb (F.queue k t) 0)) M.held) p d ≡ m
  unfolding entry place_in
  place_is_position m lm e p d q =
      let l = in_order F entry M.held in
      let here : among m l ≡ true = in_order_among F entry M.held m ∙ rw (lt-ltb m M.held lm, e) in
      let two : EachOf (λ k. (k ≡ m → ⊥) → F.number k ≡ F.number m → F.initiator k ≡ F.initiator m → ⊥) l =
      each_map l (λ k g ne n i. ne (X.one_room k m (held_entry k g.1) (held_entry m (ap not e)) i n)) (in_order_each F entry M.held) in
      let before : length (those (λ k. stands_before F k m) l) ≡ p = (let z = those_count F entry (λ k. stands_before F k m) M.held in omega arith) in
      ap (λ (x : ℕ). get_or l x d) (sym before) ∙ at_its_place F m d l (in_queue_order F entry M.held) two here

-- q of an answer is at most b
abbrev pub PlacesAtMost : ℕ → Answer → Type 0
PlacesAtMost b (refused r) = Unit {0}
PlacesAtMost b (accepted l) = l.q ≤ b

module _ (M : Limits) (F : Floor) (begun : F.started ≡ true) where
  handled_place : (i j : ℕ) (r : Record) (l : List Record) → MayWire F i j r l → (handle M (unlined F i j) i j r).report.q ≤ M.held
  unfolding handle on_multicast multicast_by_row on_ack_list on_delete on_deregister on_register room_of deepest place_of_new
  handled_place i j (multicast n) l may =
      on_option (λ (d : Done). d.report.q ≤ M.held) (room_of M F i n) (λ q. omega arith)
      (λ m q. on_cond (λ x. x ≤ M.held) (eqb (carts_that F (is_queued (unlined F i j) (local_row F j) m i n)) 0) (λ e. omega arith) (λ e. place_most M _ j m (room_some M F i n m q).0.slot))
  handled_place i j (ack_list n set) l may =
      on_option (λ (d : Done). d.report.q ≤ M.held) (room_of M F j n) (λ q. omega arith)
      (λ m q. on_cond (λ (d : Done). d.report.q ≤ M.held) (eqb (union (F.acked m) set) (F.named m)) (λ b. omega arith) (λ b. omega arith))
  handled_place i j (delete n) l may = on_option (λ (d : Done). d.report.q ≤ M.held) (room_of M F i n) (λ q. omega arith) (λ m q. omega arith)
  handled_place i j (deregister c) l may = omega arith
  handled_place i j (register c row) l may = largest_most M F.stations _ j c

  step_places : (e : Event) → PlacesAtMost M.held (answer M F e)
  unfolding on_enter on_flag on_retire on_group on_move hand_over deepest
  step_places =
      by_step M F (λ e X a. PlacesAtMost M.held a) begun (λ e r. tt)
      (λ t c may. largest_most M F.stations _ t c)
      (λ s set text m may. omega arith)
      handled_place
      (λ t c buffer m may. given_most M _ t c (F.initiator m))
      (λ c to may. omega arith)
      (λ c b may. omega arith)
      (λ c may. omega arith)
      (λ g set may. omega arith)
      (λ s g text m may. omega arith)
      (λ s set text m may. omega arith)

-- on a floor that is not started a start alone is accepted, and it queues nobody
unstarted_place : (M : Limits) (F : Floor) (broken : Bool) → broken ≡ true → (e : Event) → refusal_if M F broken e ≡ 0 → (accept M F e).report.q ≤ M.held
unfolding refusal_if accept
unstarted_place M F b t (start n k) r = omega arith
unstarted_place M F b t (enter u c) r = clash b t (passed_check 5 b _ (omega arith) r).0
unstarted_place M F b t (send s set text) r = clash b t (passed_check 5 b _ (omega arith) (passed_check 4 (ltb M.text (length text)) _ (omega arith) r).1).0
unstarted_place M F b t (wire i j) r = clash b t (passed_check 5 b _ (omega arith) r).0
unstarted_place M F b t (radio u c buffer) r = clash b t (passed_check 5 b _ (omega arith) r).0
unstarted_place M F b t (move c to) r = clash b t (passed_check 5 b _ (omega arith) r).0
unstarted_place M F b t (flag c on) r = clash b t (passed_check 5 b _ (omega arith) r).0
unstarted_place M F b t (group g set) r = clash b t (passed_check 5 b _ (omega arith) r).0
unstarted_place M F b t (send_group s g text) r =
    clash b t (passed_check 5 b _ (omega arith) (passed_check 4 (ltb M.text (length text)) _ (omega arith) r).1).0
unstarted_place M F b t (send_long s set text) r =
    clash b t (passed_check 5 b _ (omega arith) (passed_check 4 (not_long M (length text)) _ (omega arith) r).1).0
unstarted_place M F b t (retire c) r = clash b t (passed_check 5 b _ (omega arith) r).0

pub places_most : (M : Limits) (F : Floor) (e : Event) (l : Report) → answer M F e ≡ accepted l → l.q ≤ M.held
unfolding refusal
places_most M F e l a =
    by_test F.started
    (λ s. let z = step_places M F s e in rw a at z)
    (λ s. let z = unstarted_place M F (not (passes_form M F)) (ap not (unstarted_fails M F s)) e (accepted_passes M F e l a) in rw (accepted_report M F e l a) at z)

-- THE PLACE GIVEN for initiator n, as a loop over the initiators finds it: among the entries that were there and those put for initiators up to n
pub given_at_once : (M : Limits) (n : ℕ) (F : Floor) (t c : ℕ)
    → place_given M (catch_up_each M n F t c) t c n ≡ by_option (catch_up_stop M F t c n).found 0 (λ m. place_in M (catch_up_at_once M F t c (λ s. ltb s (suc n))) m t)
unfolding place_given catch_up_each buffered_for
given_at_once M n F t c =
    let earlier = catch_up_at_once M F t c (λ s. ltb s n) in
    let stop : catch_up_stop M earlier t c n ≡ catch_up_stop M F t c n = stop_same M earlier F t c n (λ k. refl) refl (rw (le-ltb n n (omega arith), and-false (eqb c c))) in
    rw (each_at_once M n F t c, stop)
    (ap (λ (X : Floor). by_option (catch_up_stop M F t c n).found 0 (λ m. place_in M X m t))
    (ap (λ (X : Floor). catch_up M X t c n) (sym (each_at_once M n F t c)) ∙ each_at_once M (suc n) F t c))
