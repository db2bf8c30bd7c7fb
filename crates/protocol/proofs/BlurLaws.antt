-- No step looks at an octet of a text: each does to a blurred floor what it does to the floor.
use mathlib.Core.Path.{ap, ap₂, fun_ext, refl, ◌∙◌, ◌≡◌}
use mathlib.Core.Bool.{Bool, cond}
use mathlib.Core.Option.{Option, none, some}
use mathlib.Core.List.{List, [], ◌∷◌}
use Prim.Native.Nat.{◌+◌, ◌-◌, max, suc, zero, ℕ}
use lib.Dec.{eqb}
use lib.ListN.{length}
use Rattle.protocol.specs.Folds.{by_option, is_empty, sum, update}
use Rattle.protocol.specs.CartSets.{union, without}
use Rattle.protocol.specs.Floor.{Floor, Limits, Record, ack_list, at, behead, delete, deregister, is_buffered, multicast, on_lines, register, set_place, set_texts, set_waiting}
use Rattle.protocol.specs.Events.{Event, done, enter, flag, group, move, radio, retire, send, send_group, send_long, start, wire}
use Rattle.protocol.specs.Groups.{members_of, on_group}
use Rattle.protocol.specs.Store.{store_used, stored_of}
use Rattle.protocol.specs.Order.{place_in}
use Rattle.protocol.specs.Handoff.{arrive, buffered_for, catch_up, catch_up_each, catch_up_stop, deepest, entry_of, largest_place, on_enter, on_flag, on_move, on_register, on_retire, passed_over, place_given, room_of, struck, with_row}
use Rattle.protocol.specs.Deregister.{buffered_rooms, in_order, insert, is_complete, leave, lists_sent, on_deregister, send_if_complete, test_each}
use Rattle.protocol.specs.Wired.{buffer, free_room, handle, multicast_by_row, on_ack_list, on_delete, on_multicast, on_send, on_wire, place_of_new, unbuffer, with_message}
use Rattle.protocol.specs.Wireless.{all_acked, hand_over, head_among, head_with, on_radio, queue_head, receive, send_acks, send_acks_if_all}
use Rattle.protocol.specs.Step.{accept}
use Rattle.protocol.specs.Blur.{blur, blur_done, blur_event, blur_text}
use Rattle.protocol.proofs.Tests.{by_option_lem, by_test}
use Rattle.protocol.proofs.CatchUp.{stop_same}
use Rattle.protocol.proofs.Counting.{sum_ext}

-- TEXTS

pub length_blurred : (l : List ℕ) → length (blur_text l) ≡ length l
length_blurred [] = refl
length_blurred (x ∷ l) = ap suc (length_blurred l)

pub empty_blurred : (l : List ℕ) → is_empty (blur_text l) ≡ is_empty l
empty_blurred [] = refl
empty_blurred (x ∷ l) = refl

-- one text changed
text_changed : (f : ℕ → List ℕ) (m : ℕ) (x : List ℕ) → update (λ k. blur_text (f k)) m (blur_text x) ≡ (λ k. blur_text (update f m x k))
text_changed f m x = fun_ext (λ k. by_test (eqb k m) (λ e. rw e) (λ e. rw e))

pub store_blurred : (M : Limits) (w : ℕ → ℕ) (f : ℕ → List ℕ) → store_used M w (λ m. blur_text (f m)) ≡ store_used M w f
store_blurred M w f = sum_ext M.held (λ m. cond (eqb (w m) 0) 0 (stored_of M (blur_text (f m)))) (λ m. cond (eqb (w m) 0) 0 (stored_of M (f m)))
    (λ m l. rw (length_blurred (f m)))

-- the text of a room after a delete
text_left : (F : Floor) (m t : ℕ) → (unbuffer (blur F) m t).text ≡ (λ k. blur_text ((unbuffer F m t).text k))
text_left F m t = fun_ext (λ k. by_test (eqb k m) (λ e. rw e (by_test (eqb (without (F.waiting m) t) 0) (λ b. rw b) (λ b. rw b))) (λ e. rw e))

-- CATCH-UP

module _ (M : Limits) where
  stop_blurred : (F : Floor) (t c s : ℕ) → catch_up_stop M (blur F) t c s ≡ catch_up_stop M F t c s
  unfolding buffered_for
  stop_blurred F t c s = stop_same M (blur F) F t c s (λ n. refl) refl refl

  catch_up_blurred : (F : Floor) (t c s : ℕ) → catch_up M (blur F) t c s ≡ blur (catch_up M F t c s)
  unfolding catch_up
  catch_up_blurred F t c s =
      rw (stop_blurred F t c s) (by_option_lem (catch_up_stop M F t c s).found (λ e. rw e) (λ m e. rw e))

  each_blurred : (n : ℕ) (F : Floor) (t c : ℕ) → catch_up_each M n (blur F) t c ≡ blur (catch_up_each M n F t c)
  unfolding catch_up_each
  each_blurred zero F t c = refl
  each_blurred (suc n) F t c = ap (λ (X : Floor). catch_up M X t c n) (each_blurred n F t c) ∙ catch_up_blurred (catch_up_each M n F t c) t c n

  arrive_blurred : (F : Floor) (t c : ℕ) (row : ℕ → ℕ) → arrive M (blur F) t c row ≡ blur (arrive M F t c row)
  unfolding arrive struck
  arrive_blurred F t c row =
      ap (λ (X : Floor). set_place X (update F.place c (at t))) (each_blurred F.stations (struck (with_row F c row) t c) t c)

  given_blurred : (F : Floor) (t c s : ℕ) → place_given M (blur F) t c s ≡ place_given M F t c s
  unfolding place_given place_in
  given_blurred F t c s =
      rw (stop_blurred F t c s) (ap (λ (X : Floor). by_option (catch_up_stop M F t c s).found 0 (λ m. place_in M X m t)) (catch_up_blurred F t c s))

  largest_blurred : (n : ℕ) (F : Floor) (t c : ℕ) → largest_place M n (blur F) t c ≡ largest_place M n F t c
  unfolding largest_place
  largest_blurred zero F t c = refl
  largest_blurred (suc n) F t c =
      ap₂ (λ (x y : ℕ). max x y) (largest_blurred n F t c) (ap (λ (X : Floor). place_given M X t c n) (each_blurred n F t c) ∙ given_blurred
      (catch_up_each M n F t c) t c n)

  deepest_blurred : (F : Floor) (t c : ℕ) (row : ℕ → ℕ) → deepest M (blur F) t c row ≡ deepest M F t c row
  unfolding deepest struck
  deepest_blurred F t c row = largest_blurred F.stations (struck (with_row F c row) t c) t c

  passed_blurred : (F : Floor) (t c : ℕ) (row : ℕ → ℕ) → passed_over M (blur F) t c row ≡ passed_over M F t c row
  unfolding passed_over
  passed_blurred F t c row = ap (λ (X : Floor). sum F.stations (λ s. X.next c s - row s)) (arrive_blurred F t c row)

  -- THE QUEUE'S HEAD

  head_among_blurred : (F : Floor) (t n : ℕ) → head_among (blur F) t n ≡ head_among F t n
  unfolding head_among
  head_among_blurred F t zero = refl
  head_among_blurred F t (suc n) = ap (λ (o : Option ℕ). head_with (blur F) t n o) (head_among_blurred F t n) ∙ with_blurred (head_among F t n)
    where
      with_blurred : (o : Option ℕ) → head_with (blur F) t n o ≡ head_with F t n o
      with_blurred none = refl
      with_blurred (some k) = refl

  pub head_blurred : (F : Floor) (t : ℕ) → queue_head M (blur F) t ≡ queue_head M F t
  unfolding queue_head
  head_blurred F t = head_among_blurred F t M.held

  -- DEREGISTER

  insert_blurred : (F : Floor) (m : ℕ) (l : List ℕ) → insert (blur F) m l ≡ insert F m l
  unfolding insert
  insert_blurred F m [] = refl
  insert_blurred F m (k ∷ l) = rw (insert_blurred F m l)

  in_order_blurred : (F : Floor) (pick : ℕ → Bool) (n : ℕ) → in_order (blur F) pick n ≡ in_order F pick n
  unfolding in_order
  in_order_blurred F pick zero = refl
  in_order_blurred F pick (suc n) = rw (in_order_blurred F pick n, insert_blurred F n (in_order F pick n))

  complete_blurred : (F : Floor) (t m : ℕ) → is_complete (blur F) t m ≡ is_complete F t m
  unfolding is_complete all_acked
  complete_blurred F t m = refl

  if_complete_blurred : (F : Floor) (t m : ℕ) → send_if_complete (blur F) t m ≡ blur (send_if_complete F t m)
  unfolding send_acks
  if_complete_blurred F t m = rw (complete_blurred F t m) (by_test (is_complete F t m) (λ e. rw e) (λ e. rw e))

  test_each_blurred : (F : Floor) (t : ℕ) (l : List ℕ) → test_each (blur F) t l ≡ blur (test_each F t l)
  unfolding test_each
  test_each_blurred F t [] = refl
  test_each_blurred F t (m ∷ l) = ap (λ (X : Floor). test_each X t l) (if_complete_blurred F t m) ∙ test_each_blurred (send_if_complete F t m) t l

  lists_blurred : (F : Floor) (t : ℕ) (l : List ℕ) → lists_sent (blur F) t l ≡ lists_sent F t l
  unfolding lists_sent
  lists_blurred F t [] = refl
  lists_blurred F t (m ∷ l) =
      ap₂ (λ (x y : ℕ). x + y) (ap (λ (b : Bool). cond b 1 0) (complete_blurred F t m))
      (ap (λ (X : Floor). lists_sent X t l) (if_complete_blurred F t m) ∙ lists_blurred (send_if_complete F t m) t l)

  deregister_blurred : (F : Floor) (i t c : ℕ) → on_deregister M (blur F) i t c ≡ blur_done (on_deregister M F i t c)
  unfolding on_deregister buffered_rooms leave
  deregister_blurred F i t c =
      let left = leave F i t c in
      let rooms = in_order left (λ m. is_buffered left m t) M.held in
      rw (in_order_blurred left (λ m. is_buffered left m t) M.held, lists_blurred left t rooms, test_each_blurred left t rooms)

  -- RECORDS

  handle_blurred : (F : Floor) (i j : ℕ) (r : Record) → handle M (blur F) i j r ≡ blur_done (handle M F i j r)
  unfolding handle on_multicast multicast_by_row on_ack_list on_delete on_register room_of buffer place_of_new place_in
  handle_blurred F i j (multicast n) = by_option_lem (room_of M F i n) (λ e. rw e) (λ m e. rw e)
  handle_blurred F i j (ack_list n x) =
      by_option_lem (room_of M F j n) (λ e. rw e)
      (λ m e. rw e (by_test (eqb (union (F.acked m) x) (F.named m)) (λ b. rw b) (λ b. rw b)))
  handle_blurred F i j (delete n) = by_option_lem (room_of M F i n) (λ e. rw e)
      (λ m e. rw e (ap (λ (x : ℕ → List ℕ). done (set_texts (set_waiting F (update F.waiting m (without (F.waiting m) j))) x) 3 3 n 0 0 0 [])
      (text_left F m j)))
  handle_blurred F i j (deregister c) = deregister_blurred F i j c
  handle_blurred F i j (register c row) = rw (
    arrive_blurred F j c (entry_of row),
    passed_blurred F j c (entry_of row),
    deepest_blurred F j c
        (entry_of row),
  )

  wire_blurred : (F : Floor) (i j : ℕ) → on_wire M (blur F) i j ≡ blur_done (on_wire M F i j)
  unfolding on_wire
  wire_blurred F i j = by_head_lem (F.lines i j) refl
    where
      by_head_lem : (l : List Record) → F.lines i j ≡ l → on_wire M (blur F) i j ≡ blur_done (on_wire M F i j)
      by_head_lem [] e = rw e
      by_head_lem (r ∷ l) e = rw e (handle_blurred (on_lines F (behead i j F.lines)) i j r)

  -- RADIO AND SEND

  if_all_blurred : (F : Floor) (m t : ℕ) → send_acks_if_all (blur F) m t ≡ blur (send_acks_if_all F m t)
  unfolding send_acks all_acked
  if_all_blurred F m t = by_test (all_acked F m t) (λ e. rw e) (λ e. rw e)

  hand_over_blurred : (F : Floor) (m t c : ℕ) → hand_over M (blur F) m t c ≡ blur_done (hand_over M F m t c)
  unfolding hand_over receive all_acked
  hand_over_blurred F m t c =
      let s = F.initiator m in
      let n = F.number m in
      let R = receive F m t c in
      let A = send_acks_if_all R m t in
      let w : ℕ = cond (all_acked R m t) 1 0 in
      let text = blur_text (F.text m) in
      ap (λ (X : Floor). done (catch_up M X t c s) 4 s n ((catch_up M X t c s).next c s - suc n) w (place_given M X t c s) text) (if_all_blurred R m t)
      ∙ ap (λ (Y : Floor). done Y 4 s n (Y.next c s - suc n) w (place_given M (blur A) t c s) text) (catch_up_blurred A t c s)
      ∙ ap (λ (q : ℕ). done (blur (catch_up M A t c s)) 4 s n ((catch_up M A t c s).next c s - suc n) w q text) (given_blurred A t c s)

  radio_blurred : (F : Floor) (t c : ℕ) → on_radio M (blur F) t c ≡ blur_done (on_radio M F t c)
  unfolding on_radio
  radio_blurred F t c = rw (head_blurred F t) (by_option_lem (queue_head M F t) (λ e. rw e) (λ m e. rw e (hand_over_blurred F m t c)))

  message_blurred : (F : Floor) (m s set : ℕ) (text : List ℕ) → with_message (blur F) m s set (blur_text text) ≡ blur (with_message F m s set text)
  unfolding with_message
  message_blurred F m s set text = ap (λ (x : ℕ → List ℕ). set_texts (with_message F m s set text) x) (text_changed F.text m text)

  send_blurred : (F : Floor) (kind s set : ℕ) (text : List ℕ) → on_send M (blur F) kind s set (blur_text text) ≡ blur_done (on_send M F kind s set text)
  unfolding on_send free_room
  send_blurred F kind s set text =
      by_option_lem (free_room M F) (λ e. rw e)
      (λ m e. rw e (ap (λ (X : Floor). done X kind s (F.sent s) 0 F.stations 0 []) (message_blurred F m s set text)))

  -- EVERY EVENT

  pub accept_blurred : (F : Floor) (e : Event) → accept M (blur F) (blur_event e) ≡ blur_done (accept M F e)
  unfolding accept on_enter on_move on_flag on_retire on_group members_of
  accept_blurred F (start n k) = refl
  accept_blurred F (enter t c) = rw (arrive_blurred F t c (λ s. 0), passed_blurred F t c (λ s. 0), deepest_blurred F t c (λ s. 0))
  accept_blurred F (send s set text) = send_blurred F 2 s set text
  accept_blurred F (wire i j) = wire_blurred F i j
  accept_blurred F (radio t c buffer) = radio_blurred F t c
  accept_blurred F (move c to) = refl
  accept_blurred F (flag c b) = refl
  accept_blurred F (retire c) = refl
  accept_blurred F (group g set) = refl
  accept_blurred F (send_group s g text) = send_blurred F 8 s (F.groups g) text
  accept_blurred F (send_long s set text) = send_blurred F 9 s set text
