-- THE FORM RULE: "a written yes-or-no test of the floor alone, the lengths of its lent parts included".
use Rattle.std.specs.Prelude.{Bool, true, false, cond, ◌&&◌, not, List, [], ◌∷◌, ℕ, suc, ◌+◌, ◌^◌, eqb, length}
use Rattle.protocol.specs.Folds.{count, sum, by_option}
use Rattle.protocol.specs.CartSets.{has}
use Rattle.protocol.specs.Floor.{Limits, Place, outside, at, leaving, travelling, Record, multicast, ack_list, delete, deregister, register, Floor, local_to, entered, is_held, most_text}
use Rattle.protocol.specs.Groups.{group_count}
use Rattle.protocol.specs.Store.{store_used}
use Rattle.protocol.specs.Handoff.{room_of, row_of}
use Rattle.protocol.specs.Claims.{Claim, is, le, lt, eq, both, when, all, on_line, test}

-- WHAT IS ON A LINE

-- 1 for yes, 0 for no
abbrev pub bit : Bool → ℕ
bit b = cond b 1 0

-- how many records of a line pass
abbrev pub count_line : (Record → Bool) → List Record → ℕ
count_line f [] = 0
count_line f (r ∷ l) = bit (f r) + count_line f l

-- and of all lines between n stations
abbrev pub count_lines : ℕ → (ℕ → ℕ → Record → Bool) → (ℕ → ℕ → List Record) → ℕ
count_lines n f lines = sum n (λ i. sum n (λ j. count_line (f i j) (lines i j)))

-- the numbers of the multicasts on a line
abbrev pub multicast_numbers : List Record → List ℕ
multicast_numbers [] = []
multicast_numbers (multicast n ∷ l) = n ∷ multicast_numbers l
multicast_numbers (ack_list n x ∷ l) = multicast_numbers l
multicast_numbers (delete n ∷ l) = multicast_numbers l
multicast_numbers (deregister c ∷ l) = multicast_numbers l
multicast_numbers (register c row ∷ l) = multicast_numbers l

-- the numbers are e, e + 1, .. n - 1
abbrev pub counts_up : ℕ → List ℕ → ℕ → Claim
counts_up e [] n = eq e n
counts_up e (x ∷ l) n = both (eq x e) (counts_up (suc e) l n)

-- on a line whose next multicast has number e, each delete is of a number passed before it
abbrev pub deletes_follow : ℕ → List Record → Claim
deletes_follow e [] = is true
deletes_follow e (multicast k ∷ l) = deletes_follow (suc e) l
deletes_follow e (ack_list k x ∷ l) = deletes_follow e l
deletes_follow e (delete k ∷ l) = both (lt k e) (deletes_follow e l)
deletes_follow e (deregister d ∷ l) = deletes_follow e l
deletes_follow e (register d row ∷ l) = deletes_follow e l

-- a delete with number n
abbrev pub is_delete_of : ℕ → Record → Bool
is_delete_of n (multicast k) = false
is_delete_of n (ack_list k x) = false
is_delete_of n (delete k) = eqb k n
is_delete_of n (deregister d) = false
is_delete_of n (register d row) = false

-- an ack list with number n and cart c in it
abbrev pub is_ack_of : ℕ → ℕ → Record → Bool
is_ack_of n c (multicast k) = false
is_ack_of n c (ack_list k x) = eqb k n && has x c
is_ack_of n c (delete k) = false
is_ack_of n c (deregister d) = false
is_ack_of n c (register d row) = false

-- an ack list for message n of s, so on a line to s, with cart c in it
abbrev pub acks_to : ℕ → ℕ → ℕ → ℕ → ℕ → Record → Bool
acks_to s n c i j r = eqb j s && is_ack_of n c r

-- in how many places an acknowledgement of cart c for the message in room m stands: at the initiator, in the ack lists, on the lines
abbrev pub ack_count : (stations : ℕ) (acked : ℕ → ℕ) (acks : ℕ → ℕ → ℕ) (initiator number : ℕ → ℕ) (lines : ℕ → ℕ → List Record) → ℕ → ℕ → ℕ
ack_count stations acked acks initiator number lines m c =
    bit (has (acked m) c) + (count stations (λ t. has (acks m t) c) + count_lines stations (acks_to (initiator m) (number m) c) lines)

-- HAND-OFFS

-- what a line has of a cart's hand-off: a deregister, or a register with its row
pub data HandoffRecord : Type 0 where
  deregistering : HandoffRecord
  registering : List ℕ → HandoffRecord

-- the hand-off records of cart c on a line
abbrev pub handoffs : ℕ → List Record → List HandoffRecord
handoffs c [] = []
handoffs c (multicast n ∷ l) = handoffs c l
handoffs c (ack_list n x ∷ l) = handoffs c l
handoffs c (delete n ∷ l) = handoffs c l
handoffs c (deregister d ∷ l) = cond (eqb d c) (deregistering ∷ handoffs c l) (handoffs c l)
handoffs c (register d row ∷ l) = cond (eqb d c) (registering row ∷ handoffs c l) (handoffs c l)

-- those that a cart in that place, with that row, has on the line from i to j: a leaving one its deregister, a travelling one its register
abbrev pub handoff_of : Place → ℕ → ℕ → List ℕ → List HandoffRecord
handoff_of outside i j row = []
handoff_of (at s) i j row = []
handoff_of (leaving s u) i j row = cond (eqb u i && eqb s j) (deregistering ∷ []) []
handoff_of (travelling s u) i j row = cond (eqb s i && eqb u j) (registering row ∷ []) []

-- two rows are the same
abbrev pub same_row : List ℕ → List ℕ → Claim
same_row [] [] = is true
same_row [] (y ∷ k) = is false
same_row (x ∷ l) [] = is false
same_row (x ∷ l) (y ∷ k) = both (eq x y) (same_row l k)

-- two lists of hand-off records are the same
abbrev pub same_handoffs : List HandoffRecord → List HandoffRecord → Claim
same_handoffs [] [] = is true
same_handoffs [] (y ∷ k) = is false
same_handoffs (deregistering ∷ l) [] = is false
same_handoffs (deregistering ∷ l) (deregistering ∷ k) = same_handoffs l k
same_handoffs (deregistering ∷ l) (registering g ∷ k) = is false
same_handoffs (registering f ∷ l) [] = is false
same_handoffs (registering f ∷ l) (deregistering ∷ k) = is false
same_handoffs (registering f ∷ l) (registering g ∷ k) = both (same_row f g) (same_handoffs l k)

module _ (M : Limits) (F : Floor) where
  -- THE WHOLE FLOOR: "An unstarted floor fails it", "the lengths of its lent parts included" and their words, "Stations 1 to 16", "Carts 1 to 64"
  abbrev pub floor_rule : Claim
  floor_rule =
      both (is F.started) (both (is F.lengths_right) (both (is F.words_right)
      (both (both (lt 0 F.stations) (le F.stations M.stations)) (both (lt 0 F.carts) (le F.carts M.carts)))))

  -- EACH STATION s: it has sent no more than up to the last number; a station beyond the floor has sent nothing
  abbrev pub station_rule : ℕ → Claim
  station_rule s = both (le (F.sent s) (suc M.last)) (when (le F.stations s) (eq (F.sent s) 0))

  -- a place at, or between, stations of the floor
  abbrev pub place_inside : Place → Claim
  place_inside outside = is true
  place_inside (at s) = lt s F.stations
  place_inside (leaving s u) = both (lt s F.stations) (lt u F.stations)
  place_inside (travelling s u) = both (lt s F.stations) (lt u F.stations)

  -- EACH CART c: its place is on the floor; if it is entered, so is the cart, and if not, also one that was retired, its next numbers are 0; no next
  -- number is above what was sent
  abbrev pub cart_rule : ℕ → Claim
  cart_rule c =
      both (place_inside (F.place c))
      (both (when (is (entered (F.place c))) (lt c F.carts))
      (both (when (is (not (entered (F.place c)))) (all M.columns (λ s. eq (F.next c s) 0)))
      (all M.columns (λ s. le (F.next c s) (F.sent s)))))

  -- a set of carts of the floor
  abbrev pub carts_only : ℕ → Claim
  carts_only x = lt x (2 ^ F.carts)

  -- EACH GROUP g: its members are carts of the floor that are entered, as kind 7 asked, and kind 8 does not ask again: a retired
  -- cart "leaves every group"
  abbrev pub group_rule : ℕ → Claim
  group_rule g = both (carts_only (F.groups g)) (all F.carts (λ c. when (is (has (F.groups g) c)) (is (entered (F.place c)))))

  -- EACH ROOM m: its sets are of the floor, and no text is longer than a send may carry
  abbrev pub room_rule : ℕ → Claim
  room_rule m =
      both (carts_only (F.named m)) (both (carts_only (F.acked m))
      (both (lt (F.waiting m) (2 ^ F.stations)) (le (length (F.text m)) (most_text M))))

  -- THE LONG TEXTS "lie in one store of 4,096 octets"
  abbrev pub store_rule : Claim
  store_rule = le (store_used M F.waiting F.text) M.store

  -- in how many places an acknowledgement of cart c for the message in room m stands
  abbrev pub acks_of : ℕ → ℕ → ℕ
  acks_of = ack_count F.stations F.acked F.acks F.initiator F.number F.lines

  -- a cart acknowledges a message in one place at most, only where it is named, and its next number is then above
  abbrev pub ack_rule : ℕ → ℕ → Claim
  ack_rule m c = both (le (acks_of m c) 1) (when (lt 0 (acks_of m c)) (both (is (has (F.named m) c)) (lt (F.number m) (F.next c (F.initiator m)))))

  -- EACH HELD MESSAGE, in room m: its initiator has given its number; no other held message has its name; where a station has handled its
  -- delete, the whole set has acknowledged
  abbrev pub held_rule : ℕ → Claim
  held_rule m =
      when (is (is_held F m))
      (both (lt (F.number m) (F.sent (F.initiator m)))
      (both (all M.held (λ k. when (is (is_held F k)) (when (eq (F.initiator m) (F.initiator k)) (when (eq (F.number m) (F.number k)) (eq m k)))))
      (both (all F.stations (λ t. when (is (not (has (F.waiting m) t))) (eq (F.acked m) (F.named m))))
      (all F.carts (ack_rule m)))))

  -- EACH ROOM m AT EACH STATION t: its sets are of the floor; a queued cart is local, the message is held, names it, and is its next
  abbrev pub entry_rule : ℕ → ℕ → Claim
  entry_rule m t =
      both (carts_only (F.copy m t)) (both (carts_only (F.acks m t)) (both (carts_only (F.queue m t))
      (all F.carts (λ c. when (is (has (F.queue m t) c))
      (both (is (is_held F m)) (both (is (local_to (F.place c) t)) (both (eq (F.next c (F.initiator m)) (F.number m)) (is (has (F.named m) c)))))))))

  -- EACH HELD MESSAGE AT EACH STATION t OF THE FLOOR: the copy has only named carts; where the message has come, it has every named cart
  -- that has yet to receive it; one delete at most is on its way
  abbrev pub copy_rule : ℕ → ℕ → Claim
  copy_rule m t =
      both (all F.carts (λ c. when (is (has (F.copy m t) c)) (is (has (F.named m) c))))
      (both (when (lt (F.number m) (F.expected t (F.initiator m)))
      (all F.carts (λ c. when (is (has (F.named m) c)) (when (le (F.next c (F.initiator m)) (F.number m)) (is (has (F.copy m t) c))))))
      (le (count_line (is_delete_of (F.number m)) (F.lines (F.initiator m) t)) 1))

  -- message n of s is held, station t has yet to handle its delete, and p of its room
  abbrev pub reaches : ℕ → ℕ → ℕ → (ℕ → Claim) → Claim
  reaches s n t p = by_option (room_of M F s n) (is false) (λ m. both (is (has (F.waiting m) t)) (p m))

  -- EACH RECORD on the line from i to j: a multicast, ack list or delete is of a held message; an ack list is of carts of the floor and not
  -- empty; a delete is of a message that the whole set has acknowledged; a hand-off is of a cart of the floor
  abbrev pub record_rule : ℕ → ℕ → Record → Claim
  record_rule i j (multicast n) = reaches i n j (λ m. is true)
  record_rule i j (ack_list n x) = both (by_option (room_of M F j n) (is false) (λ m. is true)) (both (carts_only x) (lt 0 x))
  record_rule i j (delete n) = reaches i n j (λ m. eq (F.acked m) (F.named m))
  record_rule i j (deregister d) = lt d F.carts
  record_rule i j (register d row) = lt d F.carts

  -- EACH LINE from i to j: only lines between stations of the floor have records
  abbrev pub line_rule : ℕ → ℕ → Claim
  line_rule i j = on_line (F.lines i j) (λ r. both (lt i F.stations) (both (lt j F.stations) (record_rule i j r)))

  -- EACH LINE to a station j of the floor: its multicasts run from the expected number up to what was sent, and no delete stands before its multicast
  abbrev pub order_rule : ℕ → ℕ → Claim
  order_rule i j = both (counts_up (F.expected j i) (multicast_numbers (F.lines i j)) (F.sent i)) (deletes_follow (F.expected j i) (F.lines i j))

  -- EACH CART AND LINE: the hand-off records on the lines are those of the carts leaving and travelling
  abbrev pub handoff_rule : ℕ → ℕ → ℕ → Claim
  handoff_rule c i j = same_handoffs (handoffs c (F.lines i j)) (handoff_of (F.place c) i j (row_of M (F.next c)))

  -- THE FORM RULE
  abbrev pub form_rule : Claim
  form_rule =
      both floor_rule (
      both (all M.stations station_rule) (
      both (all M.carts cart_rule) (
      both (all M.held room_rule) (
      both (all M.held held_rule) (
      both (all M.held (λ m. all M.stations (entry_rule m))) (
      both (all M.held (λ m. when (is (is_held F m)) (all F.stations (copy_rule m)))) (
      both (all M.columns (λ i. all M.columns (line_rule i))) (
      both (all M.columns (λ i. all F.stations (order_rule i))) (
      both (all M.carts (λ c. all F.stations (λ i. all F.stations (handoff_rule c i)))) (
      both (all group_count group_rule)
      store_rule))))))))))

  -- its answer
  unfoldable pub passes_form : Bool
  passes_form = test form_rule
