-- THE STATIONS THAT A LENT TABLE HOLDS, and the stations with one entry changed.
use Rattle.std.specs.Prelude.{◌≡◌, Bool, not, cond, List, ℕ, ◌+◌, ◌*◌, eqb, length}
use Rattle.protocol.specs.CartSets.{has, with, without, set_of}
use Rattle.sets.specs.Masks.{disjoint}
use Rattle.protocol.specs.Folds.{update, update2}
use Rattle.protocol.specs.Groups.{group_count}
use Rattle.rows.specs.Rows.{cell, column, RowIn}

-- THE WORDS: row 0 is the floor's own, with the mark, how many stations, how many carts, and in words 3 to 18 the members of each group. Row 1 + t
-- is station t's: word 0 says how many messages it has sent, words 1 to 16 the numbers that it expects, word 17 its local carts; then each room has
-- three words; word 114 says which rooms' copies and ack lists count, and word 115 which rooms' queue entries: where a room is not among them, there
-- is none, whatever its words say.

-- the words of a row
abbrev pub width : ℕ
width = 116

-- how many initiators, and how many rooms for held messages, a station's row has words for
abbrev pub initiators : ℕ
initiators = 16

abbrev pub rooms : ℕ
rooms = 32

-- the table has the floor's own row
abbrev pub HasHead : List ℕ → Type 0
HasHead words = RowIn width words 0

-- the table has a row for station t
abbrev pub HasStation : List ℕ → ℕ → Type 0
HasStation words t = RowIn width words (1 + t)

-- word k of the floor's own row
abbrev pub head_word : List ℕ → ℕ → ℕ
head_word words k = cell width words 0 k

-- word k of station t's row
abbrev pub station_word : List ℕ → ℕ → ℕ → ℕ
station_word words t k = cell width words (1 + t) k

-- THE FLOOR'S OWN

-- "the mark that says started"; how many stations, and how many carts, the floor has; the members of each group
pub record Head : Type 0 where
  pub mark : ℕ
  pub stations : ℕ
  pub carts : ℕ
  pub groups : ℕ → ℕ

abbrev pub head : ℕ → ℕ → ℕ → (ℕ → ℕ) → Head
head mark n k groups = record { mark = mark; stations = n; carts = k; groups = groups }

-- "none defined at a start"
abbrev pub no_groups : ℕ → ℕ
no_groups g = 0

-- where the members of group g stand in the row
abbrev pub group_at : ℕ → ℕ
group_at g = 3 + g

-- by the words of a row
abbrev pub head_of : (ℕ → ℕ) → Head
head_of W = head (W 0) (W 1) (W 2) (column group_count group_at (λ r. W) 0)

-- in a table: no members beyond sixteen groups
unfoldable pub head_in : List ℕ → Head
head_in words = head_of (head_word words)

-- THE STATIONS

-- what is kept for each station
pub record Stations : Type 0 where
  -- "Each station numbers its own from 0, rising by one": how many station t has sent
  pub sent : ℕ → ℕ
  -- "A station has one expected number per initiator, from 0": at station t, of initiator s
  pub expected : ℕ → ℕ → ℕ
  -- "It is local to a station when at it or leaving it": the carts that are local to station t
  pub local : ℕ → ℕ
  -- "the message is buffered with its own copy of the set": of the message in room m, at station t
  pub copy : ℕ → ℕ → ℕ
  -- "the station's ack list for the message": of room m, at station t
  pub acks : ℕ → ℕ → ℕ
  -- "A queue has one entry per message": the carts queued for the message in room m, at station t
  pub queue : ℕ → ℕ → ℕ

-- where the expected number of initiator s stands in a row; and of room m the copy, the ack list and the queue's entry
abbrev pub expected_at : ℕ → ℕ
expected_at s = 1 + s

abbrev pub copy_at : ℕ → ℕ
copy_at m = 18 + 3 * m

abbrev pub acks_at : ℕ → ℕ
acks_at m = 19 + 3 * m

abbrev pub queue_at : ℕ → ℕ
queue_at m = 20 + 3 * m

-- where it stands which rooms' copies and ack lists count, and which rooms' entries
abbrev pub copies_at : ℕ
copies_at = 114

abbrev pub entries_at : ℕ
entries_at = 115

-- a word counts where its bit is among those
abbrev pub counted : ℕ → ℕ → ℕ → ℕ
counted among bit word = cond (has among bit) word 0

-- the bits that count once the one has that word: an empty one need not
abbrev pub counted_with : ℕ → ℕ → ℕ → ℕ
counted_with among bit word = cond (eqb word 0) (without among bit) (with among bit)

-- by the words of each row
abbrev pub stations_of : (ℕ → ℕ → ℕ) → Stations
stations_of W =
    record {
      sent = λ t. W t 0;
      expected = λ t s. column initiators expected_at W t s;
      local = λ t. W t 17;
      copy = λ m t. counted (W t copies_at) m (column rooms copy_at W t m);
      acks = λ m t. counted (W t copies_at) m (column rooms acks_at W t m);
      queue = λ m t. counted (W t entries_at) m (column rooms queue_at W t m);
    }

-- in a table: 0 beyond its rows, beyond sixteen initiators and beyond thirty-two rooms
unfoldable pub stations_in : List ℕ → Stations
stations_in words = stations_of (station_word words)

-- the rooms whose queue entries count at station t: no other room has one there
abbrev pub entries_in : List ℕ → ℕ → ℕ
entries_in words t = set_of rooms (has (station_word words t entries_at))

-- has a word one of the carts
abbrev pub meets : ℕ → ℕ → Bool
meets carts word = not (disjoint 64 word carts)

-- has that of room m in a place, whether it counts or not
abbrev pub word_meets : List ℕ → ℕ → ℕ → ℕ → ℕ → Bool
word_meets l t place carts m = meets carts (station_word l t (place + 3 * m))

-- the rooms whose words in that place count and have one
abbrev pub rooms_meeting : List ℕ → ℕ → ℕ → ℕ → ℕ
rooms_meeting l t place carts = set_of rooms (λ m. meets carts (counted (station_word l t copies_at) m (column rooms (λ k. place + 3 * k) (station_word l) t m)))

-- is there a cart in a word
abbrev pub some_in : ℕ → Bool
some_in word = not (eqb word 0)

-- the rooms whose copies at t name cart c
abbrev pub naming_in : Stations → ℕ → ℕ → ℕ
naming_in S t c = set_of rooms (λ m. has (S.copy m t) c)

-- the rooms with an ack list at t
abbrev pub listing_in : Stations → ℕ → ℕ
listing_in S t = set_of rooms (λ m. some_in (S.acks m t))

-- nothing at any station
abbrev pub no_stations : Stations
no_stations = record { sent = λ t. 0; expected = λ t s. 0; local = λ t. 0; copy = λ m t. 0; acks = λ m t. 0; queue = λ m t. 0 }

-- WHAT A WRITER LEAVES, S before and S' after: these stations, in a table as long as it was, and the floor's own row stays
abbrev pub Leaves : List ℕ → List ℕ → Stations → Type 0
Leaves S S' X = (stations_in S' ≡ X) × ((head_in S' ≡ head_in S) × (length S' ≡ length S))

-- ONE ENTRY CHANGED

-- group g has these members
abbrev pub with_group : Head → ℕ → ℕ → Head
with_group H g set = head H.mark H.stations H.carts (update H.groups g set)

-- cart c in no group
abbrev pub groups_without : Head → ℕ → Head
groups_without H c = head H.mark H.stations H.carts (λ g. without (H.groups g) c)

-- station t has sent n
abbrev pub with_sent : Stations → ℕ → ℕ → Stations
with_sent S t n =
    record { sent = update S.sent t n; expected = S.expected; local = S.local; copy = S.copy; acks = S.acks; queue = S.queue }

-- station t expects n of initiator s
abbrev pub with_expected : Stations → ℕ → ℕ → ℕ → Stations
with_expected S t s n =
    record { sent = S.sent; expected = update2 S.expected t s n; local = S.local; copy = S.copy; acks = S.acks; queue = S.queue }

-- other carts are local to station t
abbrev pub with_local : Stations → ℕ → ℕ → Stations
with_local S t carts =
    record { sent = S.sent; expected = S.expected; local = update S.local t carts; copy = S.copy; acks = S.acks; queue = S.queue }

-- another copy of room m at station t
abbrev pub with_copy : Stations → ℕ → ℕ → ℕ → Stations
with_copy S m t carts =
    record { sent = S.sent; expected = S.expected; local = S.local; copy = update2 S.copy m t carts; acks = S.acks; queue = S.queue }

-- another ack list
abbrev pub with_acks : Stations → ℕ → ℕ → ℕ → Stations
with_acks S m t carts =
    record { sent = S.sent; expected = S.expected; local = S.local; copy = S.copy; acks = update2 S.acks m t carts; queue = S.queue }

-- another copy and another ack list
abbrev pub with_room : Stations → ℕ → ℕ → ℕ → ℕ → Stations
with_room S m t copy acks = with_acks (with_copy S m t copy) m t acks

-- another entry of the queue
abbrev pub with_queue : Stations → ℕ → ℕ → ℕ → Stations
with_queue S m t carts =
    record { sent = S.sent; expected = S.expected; local = S.local; copy = S.copy; acks = S.acks; queue = update2 S.queue m t carts }
