-- WHERE EACH REFUSAL IS MET: "Checks run down the table; the first that applies is the answer."
use Rattle.std.specs.Prelude.{Bool, true, false, cond, ◌&&◌, ◌||◌, not, List, ℕ, ◌+◌, ◌^◌, eqb, ltb, leb, length}
use Rattle.protocol.specs.Folds.{every, by_option, is_none, is_empty}
use Rattle.protocol.specs.CartSets.{has}
use Rattle.protocol.specs.Floor.{Limits, Floor, is_at, entered, moving, is_held}
use Rattle.protocol.specs.Events.{Event, start, enter, send, wire, radio, move, flag, group, send_group, send_long, retire}
use Rattle.protocol.specs.Groups.{group_count}
use Rattle.protocol.specs.Store.{not_long, store_used}
use Rattle.protocol.specs.Wired.{free_room}
use Rattle.protocol.specs.Wireless.{queue_head}
use Rattle.protocol.specs.Form.{passes_form}

-- refusal r if the check applies, else the rest of the table
abbrev pub check : ℕ → Bool → ℕ → ℕ
check r applies rest = cond applies r rest

-- 7: "stations not 1 to 16, or carts not 1 to 64"
abbrev pub wrong_size : Limits → ℕ → ℕ → Bool
wrong_size M n k = not ((ltb 0 n && leb n M.stations) && (ltb 0 k && leb k M.carts))

-- 8: "a station number not on the floor"
abbrev pub no_station : Floor → ℕ → Bool
no_station F t = leb F.stations t

-- 9: "a cart number .. not on the floor"
abbrev pub no_cart : Floor → ℕ → Bool
no_cart F c = leb F.carts c

-- 9: "or a cart in the set, not on the floor"
abbrev pub strangers : Floor → ℕ → Bool
strangers F set = leb (2 ^ F.carts) set

-- 12: a named cart is "not now entered". So the "Never entered" of 01 "in 12 and 18 reads", since a cart may be retired, "and 10 reads" "now entered"
unfoldable pub not_entered : Floor → ℕ → Bool
not_entered F set = not (every F.carts (λ c. not (has set c) || entered (F.place c)))

-- 26: "a library group above 15"; a frame's other field has no such number
abbrev pub no_group : ℕ → Bool
no_group g = leb group_count g

-- 26: "group not defined or above 15"
abbrev pub undefined : Floor → ℕ → Bool
undefined F g = no_group g || eqb (F.groups g) 0

module _ (M : Limits) (F : Floor) where
  -- 17: "queue empty, or its head entry lacks the cart"
  abbrev pub head_lacks : ℕ → ℕ → Bool
  head_lacks t c = by_option (queue_head M F t) true (λ m. not (has (F.queue m t) c))

  -- 21: "lent text buffer shorter than the text"
  abbrev pub buffer_short : ℕ → ℕ → Bool
  buffer_short t buffer = by_option (queue_head M F t) false (λ m. ltb buffer (length (F.text m)))

  -- 27: "free octets in the store, counted together, fewer than the length"
  abbrev pub store_full : List ℕ → Bool
  store_full text = ltb M.store (store_used M F.waiting F.text + length text)

  -- 29: "a held message names the cart", by the set as sent: until its last delete, whoever has received it
  unfoldable pub is_named : ℕ → Bool
  is_named c = not (every M.held (λ m. not (is_held F m && has (F.named m) c)))

  -- the first checks of a send to a set, behind 4, and what follows them
  abbrev pub first_of_send : Bool → ℕ → ℕ → ℕ → ℕ
  first_of_send broken s set rest =
      check 5 broken
      (check 8 (no_station F s)
      (check 9 (strangers F set)
      (check 11 (eqb set 0)
      (check 12 (not_entered F set)
      rest))))

  -- has the station a number, and the floor a room, for one more message? "13 now speaks of the caller's last number; its place is unchanged"
  abbrev pub number_and_room : ℕ → ℕ → ℕ
  number_and_room s rest =
      check 13 (ltb M.last (F.sent s))
      (check 14 (is_none (free_room M F))
      rest)

  -- the last checks of a send that is not long: "24, 13, 14"
  abbrev pub last_of_send : ℕ → List ℕ → ℕ
  last_of_send s text = check 24 (is_empty text) (number_and_room s 0)

  -- the refusal of an event, 0 if it is accepted; `broken`: "not started, or the lent floor breaks the written form rule". "Start skips 8
  -- and 9, and of 5 it keeps only this: a lent part of the floor has the wrong length, met before 6". A number above 21 came later, with its
  -- place: "24 empty text, after 12 and before 13"; "for radio, 25 not steady, after 16 and before 17". For a flag 18, "after 9";
  -- for a group "12 after 9, then 26 for a library group above 15"; for a group send "26 group not defined or above 15, after 8, then 24, 13, 14";
  -- for kind 9 "4 for other lengths; 27 .., after 14", and 24 cannot be; "for kind 10, after 9, 18, then 19, then 29"
  unfoldable pub refusal_if : Bool → Event → ℕ
  refusal_if broken (start n k) = check 5 (not F.lengths_right) (check 6 F.started (check 7 (wrong_size M n k) 0))
  refusal_if broken (enter t c) =
      check 5 broken
      (check 8 (no_station F t)
      (check 9 (no_cart F c)
      (check 10 (entered (F.place c)) 0)))
  refusal_if broken (send s set text) =
      check 4 (ltb M.text (length text))
      (first_of_send broken s set (last_of_send s text))
  refusal_if broken (wire i j) =
      check 5 broken
      (check 8 (no_station F i || no_station F j)
      (check 15 (is_empty (F.lines i j)) 0))
  refusal_if broken (radio t c buffer) =
      check 5 broken
      (check 8 (no_station F t)
      (check 9 (no_cart F c)
      (check 16 (not (is_at (F.place c) t))
      (check 25 (not (F.steady c))
      (check 17 (head_lacks t c)
      (check 21 (buffer_short t buffer) 0))))))
  refusal_if broken (move c to) =
      check 5 broken
      (check 8 (no_station F to)
      (check 9 (no_cart F c)
      (check 18 (not (entered (F.place c)))
      (check 19 (moving (F.place c))
      (check 20 (is_at (F.place c) to) 0)))))
  refusal_if broken (flag c b) =
      check 5 broken
      (check 9 (no_cart F c)
      (check 18 (not (entered (F.place c))) 0))
  refusal_if broken (group g members) =
      check 5 broken
      (check 9 (strangers F members)
      (check 12 (not_entered F members)
      (check 26 (no_group g) 0)))
  refusal_if broken (send_group s g text) =
      check 4 (ltb M.text (length text))
      (check 5 broken
      (check 8 (no_station F s)
      (check 26 (undefined F g)
      (last_of_send s text))))
  refusal_if broken (send_long s set text) =
      check 4 (not_long M (length text))
      (first_of_send broken s set (number_and_room s (check 27 (store_full text) 0)))
  refusal_if broken (retire c) =
      check 5 broken
      (check 9 (no_cart F c)
      (check 18 (not (entered (F.place c)))
      (check 19 (moving (F.place c)) (check 29 (is_named c) 0))))

  -- the refusal of an event, 0 if it is accepted
  unfoldable pub refusal : Event → ℕ
  refusal e = refusal_if (not (passes_form M F)) e
