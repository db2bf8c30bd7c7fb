use mathlib.Core.Path.{ap, refl, sym, ◌∙◌, ◌≡◌}
use mathlib.Core.Bool.{◌&&◌, Bool, cond, false, not, true}
use mathlib.Core.Logic.{◌⊎◌, inl, inr}
use mathlib.Core.Option.{none, some}
use mathlib.Core.List.{◌++◌, List, [], ◌∷◌}
use Prim.Native.Nat.{◌%◌, ◌+◌, ◌/◌, ◌<◌, suc, zero, ℕ, ◌≤◌}
use native.Mathlib.Omega.{arith}
use lib.Dec.{eqb, leb, ltb}
use lib.ListN.{length}
use borrow.Author.Tests.{eqb-false, eqb-true, le-ltb, lt-leb, lt-ltb, ne_eqb, not-true}
use Rattle.protocol.specs.Folds.{every, is_empty, is_none, sum, update}
use Rattle.protocol.specs.CartSets.{has, union, without}
use Rattle.protocol.specs.Floor.{Floor, Limits, Place, ack_list, entered, is_at, is_held, is_local, moving, outside, register, set_groups, set_next, set_place, set_texts}
use Rattle.protocol.specs.Events.{Answer, Done, accepted, enter, flag, group, radio, refused, retire, send, send_group, send_long, start}
use Rattle.protocol.specs.Groups.{on_group}
use Rattle.protocol.specs.Store.{not_long, store_used, stored_of}
use Rattle.protocol.specs.Order.{place_in}
use Rattle.protocol.specs.Handoff.{arrive, catch_up, catch_up_each, catch_up_stop, entry_of, on_move, on_register, on_retire, room_of, row_of, struck, with_row}
use Rattle.protocol.specs.Wired.{buffer, free_room, local_row, multicast_by_row, on_ack_list, place_of_new, unbuffer}
use Rattle.protocol.specs.Wireless.{all_acked, hand_over, receive, send_acks, send_acks_if_all, stands_before}
use Rattle.protocol.specs.Deregister.{buffered_rooms, is_complete, leave, on_deregister, send_if_complete, test_each}
use Rattle.protocol.specs.Claims.{True}
use Rattle.protocol.specs.Form.{form_rule}
use Rattle.protocol.specs.Refusals.{is_named, no_cart, no_group, no_station, not_entered, refusal_if, strangers, undefined}
use Rattle.protocol.specs.Frames.{Fields, fields_refusal, unlisted}
use Rattle.protocol.specs.TwoLists.{Item, Lists, item, lists_step}
use Rattle.protocol.specs.PlainLists.{Plain, appended, beheaded}
use Rattle.protocol.proofs.Tests.{and-false, and_left, and_right, and-true, by_lt, by_option_lem, by_test, clash, eqb_self, every_all, every_at, first_nowhere, on_cond, on_option, or-false, or_right}
use Rattle.protocol.proofs.SetLaws.{has_set_of, has_with, has_without, somebody}

-- "Readings that lose or double a correction": for each of them, what the written steps do instead. Behind them, for each later request, the
-- plain facts that a wrong reading of it would break.

-- "Dropping a message at a station once its own carts have it": a radio step takes no message out of any station's buffer
pub kept_until_deleted : (M : Limits) (F : Floor) (m t c : ℕ) → (hand_over M F m t c).floor.waiting ≡ F.waiting
unfolding hand_over catch_up receive send_acks
kept_until_deleted M F m t c =
    on_option (λ (X : Floor). X.waiting ≡ F.waiting) (catch_up_stop M (send_acks_if_all (receive F m t c) m t) t c (F.initiator m)).found
    (λ q. on_cond (λ (X : Floor). X.waiting ≡ F.waiting) (all_acked (receive F m t c) m t) (λ b. refl) (λ b. refl))
    (λ k q. on_cond (λ (X : Floor). X.waiting ≡ F.waiting) (all_acked (receive F m t c) m t) (λ b. refl) (λ b. refl))

-- "Letting the initiator test the copy that a station strikes carts from": deletes go out only when the whole set as sent has acknowledged
pub deleted_when_all_have_it : (M : Limits) (F : Floor) (s n carts m : ℕ) → room_of M F s n ≡ some m → 0 < (on_ack_list M F s n carts).report.w → union (F.acked m) carts ≡ F.named m
unfolding on_ack_list
deleted_when_all_have_it M F s n carts m e h =
    by_test (eqb (union (F.acked m) carts) (F.named m))
    (λ b. eqb-true (union (F.acked m) carts) (F.named m) b)
    (λ b. absurd (let none : 0 < 0 = rw (e, b) at h in omega arith))

-- "These lists go on the lines before the register": after the cart has left they are tested, and the register is put behind those that go
pub register_is_last : (M : Limits) (F : Floor) (i t c : ℕ)
    → (on_deregister M F i t c).floor.lines t i ≡ (test_each (leave F i t c) t (buffered_rooms M (leave F i t c) t)).lines t i ++ (register c (row_of M (F.next c)) ∷ [])
unfolding on_deregister
register_is_last M F i t c = rw (eqb_self t, eqb_self i)

-- testing the lists changes no queue
test_keeps_queue : (F : Floor) (t : ℕ) (l : List ℕ) → (test_each F t l).queue ≡ F.queue
unfolding test_each send_acks
test_keeps_queue F t [] = refl
test_keeps_queue F t (m ∷ l) = test_keeps_queue (send_if_complete F t m) t l ∙ on_cond (λ (X : Floor). X.queue ≡ F.queue) (is_complete F t m) (λ e. refl) (λ e. refl)

-- "Deregister handled as if the cart had left at its greeting: the message queued meanwhile stays behind": no entry here has the cart afterwards
pub leaves_every_entry : (M : Limits) (F : Floor) (i t c m : ℕ) → has ((on_deregister M F i t c).floor.queue m t) c ≡ false
unfolding on_deregister leave
leaves_every_entry M F i t c m =
    ap (λ (q : ℕ → ℕ → ℕ). has (q m t) c) (test_keeps_queue (leave F i t c) t (buffered_rooms M (leave F i t c) t))
    ∙ rw (eqb_self t) (has_without (F.queue m t) c c ∙ rw (eqb_self c) (and-false (has (F.queue m t) c)))

-- "Queue order by initiator first": whoever stands before another has no larger number
pub smallest_number_first : (F : Floor) (m k : ℕ) → stands_before F m k ≡ true → F.number m ≤ F.number k
smallest_number_first F m k e =
    by_lt (F.number k) (F.number m)
    (λ l. clash (stands_before F m k) e (rw (le-ltb (F.number m) (F.number k) (omega arith), ne_eqb (F.number m) (F.number k) (λ z. omega arith))))
    (λ l. l)

-- "Sending an ack list that is empty": the list that goes is the station's, and after a receipt the cart is in it
pub ack_list_sent : (F : Floor) (m t : ℕ) → (send_acks F m t).lines t (F.initiator m) ≡ F.lines t (F.initiator m) ++ (ack_list (F.number m) (F.acks m t) ∷ [])
unfolding send_acks
ack_list_sent F m t = rw (eqb_self t, eqb_self (F.initiator m))

pub cart_in_ack_list : (F : Floor) (m t c : ℕ) → has ((receive F m t c).acks m t) c ≡ true
unfolding receive
cart_in_ack_list F m t c = rw (eqb_self m, eqb_self t) (has_with (F.acks m t) c c ∙ or_right (has (F.acks m t) c) (eqb c c) (eqb_self c))

-- nor does a deregister step send one: of the lists that it looks at, one that goes has somebody in it, and everybody that it waits for
pub complete_is : (F : Floor) (t m : ℕ) → is_complete F t m ≡ true → (eqb (F.acks m t) 0 ≡ false) × (all_acked F m t ≡ true)
unfolding is_complete
complete_is F t m e =
    (not-true (eqb (F.acks m t) 0) (and_left (not (eqb (F.acks m t) 0)) (all_acked F m t) e), and_right (not (eqb (F.acks m t) 0)) (all_acked F m t) e)

-- A CORRECTION WITH NO TEXT: "24 empty text, after 12 and before 13"

-- of a send with no text that passes 8, 9 and 11: 12 comes before 24
pub not_entered_before_24 : (M : Limits) (F : Floor) (s set : ℕ) → no_station F s ≡ false → strangers F set ≡ false → eqb set 0 ≡ false
    → not_entered F set ≡ true
    → refusal_if M F false (send s set []) ≡ 12
unfolding refusal_if
not_entered_before_24 M F s set a8 a9 a11 a12 = rw (le-ltb M.text 0 (omega arith), a8, a9, a11, a12)

-- and 24 before 13 and 14: whatever number the station has used, and whatever is held
pub no_text_is_24 : (M : Limits) (F : Floor) (s set : ℕ) → no_station F s ≡ false → strangers F set ≡ false → eqb set 0 ≡ false → not_entered F set
    ≡ false
    → refusal_if M F false (send s set []) ≡ 24
unfolding refusal_if
no_text_is_24 M F s set a8 a9 a11 a12 = rw (le-ltb M.text 0 (omega arith), a8, a9, a11, a12)

-- texts of no octets take none of the store
nothing_stored : (M : Limits) (waiting : ℕ → ℕ) (n : ℕ) → sum n (λ m. cond (eqb (waiting m) 0) 0 (stored_of M [])) ≡ 0
unfolding sum
nothing_stored M waiting zero = refl
nothing_stored M waiting (suc n) =
    let z = nothing_stored M waiting n in
    let y : cond (eqb (waiting n) 0) 0 (stored_of M []) ≡ 0 = rw (le-ltb M.text 0 (omega arith))
    (on_cond (λ x. x ≡ 0) (eqb (waiting n) 0) (λ e. refl) (λ e. refl)) in
    omega arith

-- "The form rule still admits them": where it holds, it holds with no text in any room
pub form_without_texts : (M : Limits) (F : Floor) → True (form_rule M F) → True (form_rule M (set_texts F (λ m. [])))
unfolding room_of
form_without_texts M F h =
    let room = h.1.1.1.0 in
    let held = h.1.1.1.1 in
    let lines = held.1.1.1 in
    let none = nothing_stored M F.waiting M.held in (
      h.0,
      (
        h.1.0,
        (
          h.1.1.0,
          (
            (λ m l. ((room m l).0, ((room m l).1.0, ((room m l).1.1.0, omega arith)))),
            (held.0, (held.1.0, (held.1.1.0, (lines.0, (lines.1.0, (lines.1.1.0, (lines.1.1.1.0, omega arith))))))),
          ),
        ),
      ),
    )

-- A DELETED MESSAGE: "from its send until the last station has handled its delete" it is held, and so long it has its text; then it has none. No
-- other message loses its own
pub freed_by_the_last : (F : Floor) (m t k : ℕ) → (unbuffer F m t).text k ≡ cond (eqb k m && not (is_held (unbuffer F m t) m)) [] (F.text k)
freed_by_the_last F m t k =
    by_test (eqb k m)
    (λ e. let z = eqb-true k m e in rw (z, eqb_self m) (by_test (eqb (without (F.waiting m) t) 0) (λ b. rw b) (λ b. rw b)))
    (λ e. rw e)

-- FULL CALIBRATION TABLES

-- "27 .., after 14": of a long send that passes all before it
pub full_is_27 : (M : Limits) (F : Floor) (s set : ℕ) (text : List ℕ) → not_long M (length text) ≡ false → no_station F s ≡ false
    → strangers F set ≡ false → eqb set 0 ≡ false → not_entered F set ≡ false → F.sent s ≤ M.last → is_none (free_room M F) ≡ false
    → refusal_if M F false (send_long s set text) ≡ cond (ltb M.store (store_used M F.waiting F.text + length text)) 27 0
unfolding refusal_if
full_is_27 M F s set text a4 a8 a9 a11 a12 a13 a14 = rw (a4, a8, a9, a11, a12, le-ltb M.last (F.sent s) a13, a14)

-- "the last sixteen of the forty zero bits hold that length": a bit before them, or one of the six-bit length, is 3
pub stray_is_3 : (M : Limits) (f : Fields) (behind : ℕ) → f.kind ≡ 9 → 0 < f.cart + f.other + f.length + f.zero / 65536
    → fields_refusal M f behind ≡ 3
unfolding fields_refusal unlisted
stray_is_3 M f behind k l = rw (k, ne_eqb (f.cart + f.other + f.length + f.zero / 65536) 0 (λ z. omega arith))

-- then 4, by those sixteen alone, and then 1
pub length_is_4 : (M : Limits) (f : Fields) (behind : ℕ) → f.kind ≡ 9 → f.cart + f.other + f.length + f.zero / 65536 ≡ 0
    → fields_refusal M f behind ≡ cond (not_long M (f.zero % 65536)) 4 (cond (ltb behind (f.zero % 65536)) 1 0)
unfolding fields_refusal unlisted
length_is_4 M f behind k l = rw (k, l)

-- THE LOCAL LIST LOOKED UP ONCE

-- "The answers make a row, yes exactly for the local carts"
pub row_of_local : (F : Floor) (t c : ℕ) → c < F.carts → has (local_row F t) c ≡ is_local F t c
row_of_local F t c l = has_set_of F.carts (is_local F t) c l

-- a step by any row changes no answer, of no station
pub row_kept : (M : Limits) (F : Floor) (local s t n u : ℕ) → local_row (multicast_by_row M F local s t n).floor u ≡ local_row F u
unfolding multicast_by_row buffer
row_kept M F local s t n u = on_option (λ (d : Done). local_row d.floor u ≡ local_row F u) (room_of M F s n) (λ q. refl) (λ m q. refl)

-- "The rest of the step takes it from that row alone": with the carts in any other places it does and reports the same
pub places_not_asked : (M : Limits) (F : Floor) (x : ℕ → Place) (local s t n : ℕ)
    → ((multicast_by_row M (set_place F x) local s t n).floor ≡ set_place (multicast_by_row M F local s t n).floor x)
    × ((multicast_by_row M (set_place F x) local s t n).report ≡ (multicast_by_row M F local s t n).report)
unfolding multicast_by_row buffer room_of place_of_new place_in
places_not_asked M F x local s t n = by_option_lem (room_of M F s n) (λ q. rw q (refl, refl)) (λ m q. rw q (refl, refl))

-- HOLD WHILE THE VACUUM SETTLES

-- "for radio, 25 not steady, after 16 and before 17": of a radio step that passes 8 and 9, 16 comes before 25
pub not_here_is_16 : (M : Limits) (F : Floor) (t c buffer : ℕ) → no_station F t ≡ false → no_cart F c ≡ false → is_at (F.place c) t ≡ false
    → refusal_if M F false (radio t c buffer) ≡ 16
unfolding refusal_if
not_here_is_16 M F t c buffer a8 a9 a16 = rw (a8, a9, a16)

-- and 25 before 17 and 21, whatever is queued
pub unsteady_is_25 : (M : Limits) (F : Floor) (t c buffer : ℕ) → no_station F t ≡ false → no_cart F c ≡ false → is_at (F.place c) t ≡ true → F.steady c ≡ false
    → refusal_if M F false (radio t c buffer) ≡ 25
unfolding refusal_if
unsteady_is_25 M F t c buffer a8 a9 a16 a25 = rw (a8, a9, a16, a25)

-- for kind 6, 18 "after 9", where the cart is "not now entered"
pub no_cart_is_9 : (M : Limits) (F : Floor) (c : ℕ) (b : Bool) → no_cart F c ≡ true → refusal_if M F false (flag c b) ≡ 9
unfolding refusal_if
no_cart_is_9 M F c b a9 = rw a9

pub not_in_is_18 : (M : Limits) (F : Floor) (c : ℕ) (b : Bool) → no_cart F c ≡ false → entered (F.place c) ≡ false → refusal_if M F false (flag c b) ≡ 18
unfolding refusal_if
not_in_is_18 M F c b a9 a18 = rw (a9, a18)

-- "in the other field, 1 for steady or 0 for not; 2 to 15 there is refusal 3"
pub other_flag_is_3 : (M : Limits) (f : Fields) (behind : ℕ) → f.kind ≡ 6 → 2 ≤ f.other → fields_refusal M f behind ≡ 3
unfolding fields_refusal unlisted
other_flag_is_3 M f behind k h = rw (k, ne_eqb (f.station + f.other / 2 + f.length + f.zero + f.set) 0 (omega arith))

-- "The flag travels with the cart through hand-offs": catch-up, a move, a deregister and a register leave every flag
caught_up_flags : (M : Limits) (F : Floor) (t c s : ℕ) → (catch_up M F t c s).steady ≡ F.steady
unfolding catch_up
caught_up_flags M F t c s = on_option (λ (X : Floor). X.steady ≡ F.steady) (catch_up_stop M F t c s).found (λ q. refl) (λ m q. refl)

each_caught_up_flags : (M : Limits) (n : ℕ) (F : Floor) (t c : ℕ) → (catch_up_each M n F t c).steady ≡ F.steady
unfolding catch_up_each
each_caught_up_flags M zero F t c = refl
each_caught_up_flags M (suc n) F t c = caught_up_flags M (catch_up_each M n F t c) t c n ∙ each_caught_up_flags M n F t c

pub arrive_keeps_flags : (M : Limits) (F : Floor) (t c : ℕ) (row : ℕ → ℕ) → (arrive M F t c row).steady ≡ F.steady
unfolding arrive struck
arrive_keeps_flags M F t c row = each_caught_up_flags M F.stations (struck (with_row F c row) t c) t c

pub register_keeps_flags : (M : Limits) (F : Floor) (t c : ℕ) (row : List ℕ) → (on_register M F t c row).floor.steady ≡ F.steady
unfolding on_register
register_keeps_flags M F t c row = arrive_keeps_flags M F t c (entry_of row)

test_keeps_flags : (F : Floor) (t : ℕ) (l : List ℕ) → (test_each F t l).steady ≡ F.steady
unfolding test_each send_acks
test_keeps_flags F t [] = refl
test_keeps_flags F t (m ∷ l) = test_keeps_flags (send_if_complete F t m) t l ∙ on_cond (λ (X : Floor). X.steady ≡ F.steady) (is_complete F t m) (λ e. refl) (λ e. refl)

pub deregister_keeps_flags : (M : Limits) (F : Floor) (i t c : ℕ) → (on_deregister M F i t c).floor.steady ≡ F.steady
unfolding on_deregister leave
deregister_keeps_flags M F i t c = test_keeps_flags (leave F i t c) t (buffered_rooms M (leave F i t c) t)

pub move_keeps_flags : (F : Floor) (c to : ℕ) → (on_move F c to).floor.steady ≡ F.steady
unfolding on_move
move_keeps_flags F c to = refl

-- NAMED GROUPS OF CARTS

-- "A later change of the group touches no message already sent": it touches nothing but the groups
pub group_alone : (F : Floor) (g set : ℕ) → (on_group F g set).floor ≡ set_groups F (update F.groups g set)
unfolding on_group
group_alone F g set = refl

-- "an empty set undefines the group"
pub emptied_is_undefined : (F : Floor) (g : ℕ) → undefined (on_group F g 0).floor g ≡ true
unfolding on_group
emptied_is_undefined F g =
    let empty : eqb ((on_group F g 0).floor.groups g) 0 ≡ true = rw (eqb_self g) in or_right (no_group g) (eqb ((on_group F g 0).floor.groups g) 0) empty

-- "for kind 7, 12 after 9, then 26 for a library group above 15"
pub strangers_are_9 : (M : Limits) (F : Floor) (g set : ℕ) → strangers F set ≡ true → refusal_if M F false (group g set) ≡ 9
unfolding refusal_if
strangers_are_9 M F g set a9 = rw a9

pub not_entered_is_12 : (M : Limits) (F : Floor) (g set : ℕ) → strangers F set ≡ false → not_entered F set ≡ true
    → refusal_if M F false (group g set) ≡ 12
unfolding refusal_if
not_entered_is_12 M F g set a9 a12 = rw (a9, a12)

pub above_15_is_26 : (M : Limits) (F : Floor) (g set : ℕ) → strangers F set ≡ false → not_entered F set ≡ false → no_group g ≡ true
    → refusal_if M F false (group g set) ≡ 26
unfolding refusal_if
above_15_is_26 M F g set a9 a12 a26 = rw (a9, a12, a26)

-- "for kind 8, 26 group not defined or above 15, after 8, then 24": 8 first, whatever the group
pub no_station_is_8 : (M : Limits) (F : Floor) (s g : ℕ) (text : List ℕ) → length text ≤ M.text → no_station F s ≡ true
    → refusal_if M F false (send_group s g text) ≡ 8
unfolding refusal_if
no_station_is_8 M F s g text a4 a8 = rw (le-ltb M.text (length text) a4, a8)

-- then 26, also of an empty text
pub undefined_is_26 : (M : Limits) (F : Floor) (s g : ℕ) (text : List ℕ) → length text ≤ M.text → no_station F s ≡ false → undefined F g ≡ true
    → refusal_if M F false (send_group s g text) ≡ 26
unfolding refusal_if
undefined_is_26 M F s g text a4 a8 a26 = rw (le-ltb M.text (length text) a4, a8, a26)

-- then 24, 13 and 14 as for a send to the members, which passes 9, 11 and 12: both meet the same refusal
pub refused_as_the_send : (M : Limits) (F : Floor) (s g : ℕ) (text : List ℕ) → undefined F g ≡ false → strangers F (F.groups g) ≡ false
    → not_entered F (F.groups g) ≡ false → refusal_if M F false (send_group s g text) ≡ refusal_if M F false (send s (F.groups g) text)
unfolding refusal_if
refused_as_the_send M F s g text a26 a9 a12 = rw (a26, a9, (or-false (no_group g) (eqb (F.groups g) 0) a26).1, a12)

-- THE DEMONSTRATION CASE: "Refusals 5 .., 7 and 14 use the caller's limits"

-- more stations than the caller's, or more carts
pub too_large_is_7 : (M : Limits) (F : Floor) (broken : Bool) (n k : ℕ) → F.lengths_right ≡ true → F.started ≡ false
    → (M.stations < n) ⊎ (M.carts < k)
    → refusal_if M F broken (start n k) ≡ 7
unfolding refusal_if
too_large_is_7 M F broken n k lengths fresh (inl l) = rw (lengths, fresh, lt-leb n M.stations l, and-false (ltb 0 n))
too_large_is_7 M F broken n k lengths fresh (inr l) =
    rw (lengths, fresh, lt-leb k M.carts l, and-false (ltb 0 k), and-false (ltb 0 n && leb n M.stations))

-- "13 now speaks of the caller's last number; its place is unchanged": after 24 and before 14, whatever is held
pub used_up_is_13 : (M : Limits) (F : Floor) (s set : ℕ) (text : List ℕ) → length text ≤ M.text → no_station F s ≡ false → strangers F set ≡ false
    → eqb set 0 ≡ false → not_entered F set ≡ false → is_empty text ≡ false → M.last < F.sent s → refusal_if M F false (send s set text) ≡ 13
unfolding refusal_if
used_up_is_13 M F s set text a4 a8 a9 a11 a12 a24 a13 =
    rw (le-ltb M.text (length text) a4, a8, a9, a11, a12, a24, lt-ltb M.last (F.sent s) a13)

-- as many messages held as the caller may hold
pub none_free_is_14 : (M : Limits) (F : Floor) (s set : ℕ) (text : List ℕ) → length text ≤ M.text → no_station F s ≡ false → strangers F set ≡ false
    → eqb set 0 ≡ false → not_entered F set ≡ false → is_empty text ≡ false → F.sent s ≤ M.last → ((m : ℕ) → m < M.held → is_held F m ≡ true)
    → refusal_if M F false (send s set text) ≡ 14
unfolding refusal_if free_room
none_free_is_14 M F s set text a4 a8 a9 a11 a12 a24 a13 full =
    let taken : free_room M F ≡ none = first_nowhere M.held (λ m. eqb (F.waiting m) 0) (λ m l. not-true (eqb (F.waiting m) 0) (full m l)) in
    rw (le-ltb M.text (length text) a4, a8, a9, a11, a12, a24, le-ltb M.last (F.sent s) a13, taken)

-- A LIST KEPT BY HAND

-- "A send appends its text, under the lists' own count of that station's sends, to the lists of the named carts"
pub put_at_the_end : (P : Plain) (s set : ℕ) (text : List ℕ) (c : ℕ) → has set c ≡ true
    → (appended P s set text).list s c ≡ P.list s c ++ (item (P.count s) text ∷ [])
unfolding appended
put_at_the_end P s set text c e = rw (eqb_self s, e)

pub others_as_they_were : (P : Plain) (s set : ℕ) (text : List ℕ) (u c : ℕ) → eqb u s && has set c ≡ false
    → (appended P s set text).list u c ≡ P.list u c
unfolding appended
others_as_they_were P s set text u c e = rw e

-- "takes the head"
pub rest_stays : (P : Plain) (s c : ℕ) (x : Item) (rest : List Item) → P.list s c ≡ x ∷ rest → (beheaded P s c).list s c ≡ rest
unfolding beheaded
rest_stays P s c x rest q = rw (eqb_self s, eqb_self c, q)

-- A CART GOES BACK TO THE FACTORY

-- "the number becomes outside", with all next numbers 0, and "leaves every group"
pub retired_out : (F : Floor) (c : ℕ)
    → ((on_retire F c).floor.place c ≡ outside)
    × (((s : ℕ) → (on_retire F c).floor.next c s ≡ 0) × ((g : ℕ) → has ((on_retire F c).floor.groups g) c ≡ false))
unfolding on_retire
retired_out F c =
    (rw (eqb_self c), ((λ s. rw (eqb_self c)), λ g. has_without (F.groups g) c c ∙ rw (eqb_self c) (and-false (has (F.groups g) c))))

-- no other cart does
pub others_stay : (F : Floor) (c d : ℕ) → (d ≡ c → ⊥)
    → ((on_retire F c).floor.place d ≡ F.place d)
    × (((s : ℕ) → (on_retire F c).floor.next d s ≡ F.next d s) × ((g : ℕ) → has ((on_retire F c).floor.groups g) d ≡ has (F.groups g) d))
unfolding on_retire
others_stay F c d ne =
    let z = ne_eqb d c ne in
    let y = ne_eqb c d (λ e. ne (sym e)) in
    (rw z, ((λ s. rw z), λ g. has_without (F.groups g) c d ∙ rw y (and-true (has (F.groups g) d))))

-- and nothing else changes
pub retire_alone : (F : Floor) (c : ℕ)
    → (on_retire F c).floor ≡ set_groups (set_next (set_place F (on_retire F c).floor.place) (on_retire F c).floor.next) (on_retire F c).floor.groups
unfolding on_retire
retire_alone F c = refl

-- "a group that this empties is undefined"
pub emptied_by_retiring : (F : Floor) (c g : ℕ) → ((d : ℕ) → has (F.groups g) d ≡ true → d ≡ c) → undefined (on_retire F c).floor g ≡ true
unfolding on_retire
emptied_by_retiring F c g only =
    let left = without (F.groups g) c in
    let empty : eqb left 0 ≡ true =
    by_test (eqb left 0) (λ e. e)
    (λ e. let d = somebody left e in
    let q = sym (has_without (F.groups g) c d.0) ∙ d.1 in
    absurd (eqb-false c d.0 (not-true (eqb c d.0) (and_right (has (F.groups g) d.0) (not (eqb c d.0)) q))
    (sym (only d.0 (and_left (has (F.groups g) d.0) (not (eqb c d.0)) q))))) in
    or_right (no_group g) (eqb left 0) empty

-- "Kind 10 carries a cart": any other field is 3
pub stray_at_10_is_3 : (M : Limits) (f : Fields) (behind : ℕ) → f.kind ≡ 10 → 0 < f.station + f.other + f.length + f.zero + f.set
    → fields_refusal M f behind ≡ 3
unfolding fields_refusal unlisted
stray_at_10_is_3 M f behind k l = rw (k, ne_eqb (f.station + f.other + f.length + f.zero + f.set) 0 (λ z. omega arith))

-- no request defines a kind above it
pub above_10_is_2 : (M : Limits) (f : Fields) (behind : ℕ) → 10 < f.kind → fields_refusal M f behind ≡ 2
unfolding fields_refusal
above_10_is_2 M f behind l = rw (lt-ltb 10 f.kind l)

-- "after 9, 18, then 19, then 29 a held message names the cart"
pub no_such_cart_is_9 : (M : Limits) (F : Floor) (c : ℕ) → no_cart F c ≡ true → refusal_if M F false (retire c) ≡ 9
unfolding refusal_if
no_such_cart_is_9 M F c a9 = rw a9

pub outside_is_18 : (M : Limits) (F : Floor) (c : ℕ) → no_cart F c ≡ false → entered (F.place c) ≡ false → refusal_if M F false (retire c) ≡ 18
unfolding refusal_if
outside_is_18 M F c a9 a18 = rw (a9, a18)

pub moving_is_19 : (M : Limits) (F : Floor) (c : ℕ) → no_cart F c ≡ false → entered (F.place c) ≡ true → moving (F.place c) ≡ true
    → refusal_if M F false (retire c) ≡ 19
unfolding refusal_if
moving_is_19 M F c a9 a18 a19 = rw (a9, a18, a19)

-- 29 goes by the set as sent
pub named_is_29 : (M : Limits) (F : Floor) (c m : ℕ) → no_cart F c ≡ false → entered (F.place c) ≡ true → moving (F.place c) ≡ false
    → m < M.held → is_held F m ≡ true → has (F.named m) c ≡ true → refusal_if M F false (retire c) ≡ 29
unfolding refusal_if is_named
named_is_29 M F c m a9 a18 a19 l h n =
    let free : ℕ → Bool = λ k. not (is_held F k && has (F.named k) c) in
    let some_named : every M.held free ≡ false =
    by_test (every M.held free) (λ e. let z = every_at M.held free e m l in clash false (rw (h, n) at z) refl) (λ e. e) in
    rw (a9, a18, a19, some_named)

-- and nothing else stops it
pub unnamed_is_none : (M : Limits) (F : Floor) (c : ℕ) → no_cart F c ≡ false → entered (F.place c) ≡ true → moving (F.place c) ≡ false
    → ((m : ℕ) → m < M.held → is_held F m ≡ true → has (F.named m) c ≡ false) → refusal_if M F false (retire c) ≡ 0
unfolding refusal_if is_named
unnamed_is_none M F c a9 a18 a19 unnamed =
    let free : every M.held (λ m. not (is_held F m && has (F.named m) c)) ≡ true =
    every_all M.held (λ m. not (is_held F m && has (F.named m) c)) (λ m l. by_test (is_held F m) (λ e. rw (e, unnamed m l e)) (λ e. rw e)) in
    rw (a9, a18, a19, free)

-- "the sent and received lists of a cart begin at its latest entry": an entry leaves those of the others
pub entry_leaves_others : (a : Answer) (L : Lists) (t c d s : ℕ) → (d ≡ c → ⊥)
    → ((lists_step (enter t c) a L).sent s d ≡ L.sent s d)
    × (((lists_step (enter t c) a L).received s d ≡ L.received s d) × ((lists_step (enter t c) a L).count s ≡ L.count s))
entry_leaves_others (refused r) L t c d s ne = (refl, (refl, refl))
entry_leaves_others (accepted l) L t c d s ne = let z = ne_eqb d c ne in (rw z, (rw z, refl))
