-- THE FLOOR: "It holds the records of all stations, carts and held messages and the wired lines between stations."
use Rattle.std.specs.Prelude.{Bool, true, false, cond, ◌&&◌, not, List, [], ◌∷◌, ◌++◌, ℕ, ◌≤◌, ◌+◌, ◌*◌, max, eqb, ltb, length}
use Rattle.std.proofs.Common.{arith}
use Rattle.protocol.specs.Folds.{sum}
use Rattle.protocol.specs.CartSets.{has, set_of}

-- How large a floor may be. Every definition and theorem takes the limits as a parameter.
pub record Limits : Type 0 where
  pub stations : ℕ
  pub carts : ℕ
  pub held : ℕ
  pub last : ℕ
  -- the longest text of a send that is not long, the longest long one, and how many octets all long texts together have room for
  pub text : ℕ
  pub long : ℕ
  pub store : ℕ
  -- how many next numbers a row has, one for each station that a floor of any limits may have
  pub columns : ℕ
  pub fits : stations ≤ columns

-- A product: its own limits, no larger than rows and words have places for
pub record Product : Type 0 where
  pub stations : ℕ
  pub carts : ℕ
  pub held : ℕ
  pub last : ℕ
  pub stations_fit : stations ≤ 16
  pub carts_fit : carts ≤ 64
  pub held_fit : held ≤ 32
  pub last_fit : last ≤ 4294967294

-- its limits; of texts they are the same for every product: "text 0 to 32 octets", "33 to 512 octets", "one store of 4,096 octets"
abbrev pub limits_of : Product → Limits
limits_of P =
    record {
      stations = P.stations;
      carts = P.carts;
      held = P.held;
      last = P.last;
      text = 32;
      long = 512;
      store = 4096;
      columns = 16;
      fits = P.stations_fit;
    }

-- "Stations 1 to 16", "Carts 1 to 64", "At most 32 held messages, text 0 to 32 octets"; "the last number being 4,294,967,294"
abbrev pub whole_floor : Product
whole_floor = record { stations = 16; carts = 64; held = 32; last = 4294967294; stations_fit = omega arith; carts_fit = omega arith; held_fit = omega arith; last_fit = omega arith }

abbrev pub limits : Limits
limits = limits_of whole_floor

-- the demonstration kit: "at most 4 stations, 8 carts and 8 held messages"; "The kit stays at 65,534"
abbrev pub kit : Product
kit = record { stations = 4; carts = 8; held = 8; last = 65534; stations_fit = omega arith; carts_fit = omega arith; held_fit = omega arith; last_fit = omega arith }

-- "at most 32 × (16 + 16 + 64) + 64 = 3,136", "at most 8 × (4 + 4 + 8) + 8 = 136": the records that the lines have room for
abbrev pub most_records : Limits → ℕ
most_records M = M.held * (M.stations + M.stations + M.carts) + M.carts

-- the longest text that a send of any kind may carry: buffers "must now hold 512 octets to take every text"
abbrev pub most_text : Limits → ℕ
most_text M = max M.text M.long

-- "A cart is outside, at a station, leaving (it has greeted a new station, the old one has not heard), or travelling (its register
-- is on a line)": at s; leaving s for t; travelling from s to t
pub data Place : Type 0 where
  outside : Place
  at : ℕ → Place
  leaving : ℕ → ℕ → Place
  travelling : ℕ → ℕ → Place

-- "Five records travel: multicast (1), ack list (2), delete (3), deregister (4), register (5)". The first three carry the message's
-- number, the ack list its carts too; the hand-off's carry the cart, and "the register record carries the cart's whole row of next numbers"
pub data Record : Type 0 where
  multicast : (number : ℕ) → Record
  ack_list : (number : ℕ) (carts : ℕ) → Record
  delete : (number : ℕ) → Record
  deregister : (cart : ℕ) → Record
  register : (cart : ℕ) (row : List ℕ) → Record

-- The floor. A station, a cart and a room for a held message are numbers; a set of carts or of stations is a number too (CartSets).
pub record Floor : Type 0 where
  -- "a lent part of the floor has the wrong length" is no
  pub lengths_right : Bool
  -- the words of the lent parts are such as their layout has: how they lie is no matter here
  pub words_right : Bool
  -- "the mark that says started"
  pub started : Bool
  -- "Stations 1 to 16, numbered from 0": how many
  pub stations : ℕ
  -- "Carts 1 to 64, numbered from 0": how many
  pub carts : ℕ
  -- "Named groups of carts": the members of group g; none, and it is not defined: "an empty set undefines the group"
  pub groups : ℕ → ℕ
  -- "Each station numbers its own from 0, rising by one": how many station s has sent, so also its next message's number
  pub sent : ℕ → ℕ
  -- "A station has one expected number per initiator, from 0": at station t, of initiator s
  pub expected : ℕ → ℕ → ℕ
  -- where cart c is
  pub place : ℕ → Place
  -- "A cart has one next number per initiator": of cart c, of initiator s
  pub next : ℕ → ℕ → ℕ
  -- is cart c's vacuum steady: "A cart counts as steady from its entry until told"; a cart outside has no flag that anybody reads
  pub steady : ℕ → Bool
  -- "A message is named by its initiator and its number": the initiator of the message in room m
  pub initiator : ℕ → ℕ
  -- and its number
  pub number : ℕ → ℕ
  -- "The initiator keeps the set as sent": the carts that the message in room m names
  pub named : ℕ → ℕ
  -- its text, in octets
  pub text : ℕ → List ℕ
  -- "Ack list: the initiator adds its carts": the carts that it knows to have the message in room m
  pub acked : ℕ → ℕ
  -- "A message is held from its send until the last station has handled its delete": the stations that have not; none, and room m is free
  pub waiting : ℕ → ℕ
  -- "the message is buffered with its own copy of the set": the copy of the message in room m at station t
  pub copy : ℕ → ℕ → ℕ
  -- "the station's ack list for the message": of room m, at station t
  pub acks : ℕ → ℕ → ℕ
  -- "A queue has one entry per message": the carts queued for the message in room m at station t; none, and there is no entry
  pub queue : ℕ → ℕ → ℕ
  -- "A line runs from each station to each station, itself included, first in first out": the records from i to j, head first
  pub lines : ℕ → ℕ → List Record

-- PARTS OF A FLOOR, and the floor with another part in its place

-- what is kept for each cart
pub record Carts : Type 0 where
  pub place : ℕ → Place
  pub next : ℕ → ℕ → ℕ
  pub steady : ℕ → Bool

-- for each room for a message
pub record Messages : Type 0 where
  pub initiator : ℕ → ℕ
  pub number : ℕ → ℕ
  pub named : ℕ → ℕ
  pub text : ℕ → List ℕ
  pub acked : ℕ → ℕ
  pub waiting : ℕ → ℕ

-- for each room and station
pub record Copies : Type 0 where
  pub copy : ℕ → ℕ → ℕ
  pub acks : ℕ → ℕ → ℕ
  pub queue : ℕ → ℕ → ℕ

-- other numbers of the stations: sent, and expected
abbrev pub on_stations : Floor → (ℕ → ℕ) → (ℕ → ℕ → ℕ) → Floor
on_stations F sent expected =
    record {
      lengths_right = F.lengths_right;
      words_right = F.words_right;
      started = F.started;
      stations = F.stations;
      carts = F.carts;
      groups = F.groups;
      sent = sent;
      expected = expected;
      place = F.place;
      next = F.next;
      steady = F.steady;
      initiator = F.initiator;
      number = F.number;
      named = F.named;
      text = F.text;
      acked = F.acked;
      waiting = F.waiting;
      copy = F.copy;
      acks = F.acks;
      queue = F.queue;
      lines = F.lines;
    }

-- other carts
abbrev pub on_carts : Floor → Carts → Floor
on_carts F C =
    record {
      lengths_right = F.lengths_right;
      words_right = F.words_right;
      started = F.started;
      stations = F.stations;
      carts = F.carts;
      groups = F.groups;
      sent = F.sent;
      expected = F.expected;
      place = C.place;
      next = C.next;
      steady = C.steady;
      initiator = F.initiator;
      number = F.number;
      named = F.named;
      text = F.text;
      acked = F.acked;
      waiting = F.waiting;
      copy = F.copy;
      acks = F.acks;
      queue = F.queue;
      lines = F.lines;
    }

-- other messages
abbrev pub on_messages : Floor → Messages → Floor
on_messages F H =
    record {
      lengths_right = F.lengths_right;
      words_right = F.words_right;
      started = F.started;
      stations = F.stations;
      carts = F.carts;
      groups = F.groups;
      sent = F.sent;
      expected = F.expected;
      place = F.place;
      next = F.next;
      steady = F.steady;
      initiator = H.initiator;
      number = H.number;
      named = H.named;
      text = H.text;
      acked = H.acked;
      waiting = H.waiting;
      copy = F.copy;
      acks = F.acks;
      queue = F.queue;
      lines = F.lines;
    }

-- other copies, ack lists and queues
abbrev pub on_copies : Floor → Copies → Floor
on_copies F K =
    record {
      lengths_right = F.lengths_right;
      words_right = F.words_right;
      started = F.started;
      stations = F.stations;
      carts = F.carts;
      groups = F.groups;
      sent = F.sent;
      expected = F.expected;
      place = F.place;
      next = F.next;
      steady = F.steady;
      initiator = F.initiator;
      number = F.number;
      named = F.named;
      text = F.text;
      acked = F.acked;
      waiting = F.waiting;
      copy = K.copy;
      acks = K.acks;
      queue = K.queue;
      lines = F.lines;
    }

-- other lines
abbrev pub on_lines : Floor → (ℕ → ℕ → List Record) → Floor
on_lines F lines =
    record {
      lengths_right = F.lengths_right;
      words_right = F.words_right;
      started = F.started;
      stations = F.stations;
      carts = F.carts;
      groups = F.groups;
      sent = F.sent;
      expected = F.expected;
      place = F.place;
      next = F.next;
      steady = F.steady;
      initiator = F.initiator;
      number = F.number;
      named = F.named;
      text = F.text;
      acked = F.acked;
      waiting = F.waiting;
      copy = F.copy;
      acks = F.acks;
      queue = F.queue;
      lines = lines;
    }

-- other groups
abbrev pub set_groups : Floor → (ℕ → ℕ) → Floor
set_groups F groups =
    record {
      lengths_right = F.lengths_right;
      words_right = F.words_right;
      started = F.started;
      stations = F.stations;
      carts = F.carts;
      groups = groups;
      sent = F.sent;
      expected = F.expected;
      place = F.place;
      next = F.next;
      steady = F.steady;
      initiator = F.initiator;
      number = F.number;
      named = F.named;
      text = F.text;
      acked = F.acked;
      waiting = F.waiting;
      copy = F.copy;
      acks = F.acks;
      queue = F.queue;
      lines = F.lines;
    }

-- other expected numbers
abbrev pub set_expected : Floor → (ℕ → ℕ → ℕ) → Floor
set_expected F x = on_stations F F.sent x

-- other places
abbrev pub set_place : Floor → (ℕ → Place) → Floor
set_place F x = on_carts F (record { place = x; next = F.next; steady = F.steady })

-- other next numbers
abbrev pub set_next : Floor → (ℕ → ℕ → ℕ) → Floor
set_next F x = on_carts F (record { place = F.place; next = x; steady = F.steady })

-- other flags
abbrev pub set_steady : Floor → (ℕ → Bool) → Floor
set_steady F x = on_carts F (record { place = F.place; next = F.next; steady = x })

-- other texts
abbrev pub set_texts : Floor → (ℕ → List ℕ) → Floor
set_texts F x = on_messages F (record { initiator = F.initiator; number = F.number; named = F.named; text = x; acked = F.acked; waiting = F.waiting })

-- other carts known to have a message
abbrev pub set_acked : Floor → (ℕ → ℕ) → Floor
set_acked F x = on_messages F (record { initiator = F.initiator; number = F.number; named = F.named; text = F.text; acked = x; waiting = F.waiting })

-- other stations waited for
abbrev pub set_waiting : Floor → (ℕ → ℕ) → Floor
set_waiting F x = on_messages F (record { initiator = F.initiator; number = F.number; named = F.named; text = F.text; acked = F.acked; waiting = x })

-- other copies
abbrev pub set_copy : Floor → (ℕ → ℕ → ℕ) → Floor
set_copy F x = on_copies F (record { copy = x; acks = F.acks; queue = F.queue })

-- other ack lists
abbrev pub set_acks : Floor → (ℕ → ℕ → ℕ) → Floor
set_acks F x = on_copies F (record { copy = F.copy; acks = x; queue = F.queue })

-- other queues
abbrev pub set_queue : Floor → (ℕ → ℕ → ℕ) → Floor
set_queue F x = on_copies F (record { copy = F.copy; acks = F.acks; queue = x })

-- PLACES

-- "It is local to a station when at it or leaving it"
abbrev pub local_to : Place → ℕ → Bool
local_to outside t = false
local_to (at s) t = eqb s t
local_to (leaving s u) t = eqb s t
local_to (travelling s u) t = false

-- "cart is not at this station (leaving counts as not at)" is no
abbrev pub is_at : Place → ℕ → Bool
is_at outside t = false
is_at (at s) t = eqb s t
is_at (leaving s u) t = false
is_at (travelling s u) t = false

-- "now entered": a cart that was retired is not, until it enters again
abbrev pub entered : Place → Bool
entered outside = false
entered (at s) = true
entered (leaving s u) = true
entered (travelling s u) = true

-- "leaving or travelling"
abbrev pub moving : Place → Bool
moving outside = false
moving (at s) = false
moving (leaving s u) = true
moving (travelling s u) = true

-- "the old station" of a move; 0 for a cart outside, which has none
abbrev pub station_of : Place → ℕ
station_of outside = 0
station_of (at s) = s
station_of (leaving s u) = s
station_of (travelling s u) = s

-- LINES

-- a line without its head
abbrev pub tail : List Record → List Record
tail [] = []
tail (r ∷ l) = l

-- the head of the line from i to j is taken off
abbrev pub behead : ℕ → ℕ → (ℕ → ℕ → List Record) → ℕ → ℕ → List Record
behead i j lines k h = cond (eqb i k && eqb j h) (tail (lines k h)) (lines k h)

-- a record is put at the end of each line that `on` picks
abbrev pub put : (ℕ → ℕ → Bool) → Record → (ℕ → ℕ → List Record) → ℕ → ℕ → List Record
put on r lines i j = cond (on i j) (lines i j ++ (r ∷ [])) (lines i j)

-- the one line from a to b
abbrev pub between : ℕ → ℕ → ℕ → ℕ → Bool
between a b i j = eqb a i && eqb b j

-- "on the line to every station": the lines from s to each of n stations
abbrev pub to_every : ℕ → ℕ → ℕ → ℕ → Bool
to_every n s i j = eqb s i && ltb j n

-- a record is put on lines of the floor
abbrev pub push : Floor → (ℕ → ℕ → Bool) → Record → Floor
push F on r = on_lines F (put on r F.lines)

-- how many records are on the lines between n stations
abbrev pub on_the_lines : ℕ → (ℕ → ℕ → List Record) → ℕ
on_the_lines n lines = sum n (λ i. sum n (λ j. length (lines i j)))

-- READING THE FLOOR

-- "A message is held from its send until the last station has handled its delete": is room m taken
abbrev pub is_held : Floor → ℕ → Bool
is_held F m = not (eqb (F.waiting m) 0)

-- has station t buffered the message in room m, and not handled its delete
abbrev pub is_buffered : Floor → ℕ → ℕ → Bool
is_buffered F m t = has (F.waiting m) t && ltb (F.number m) (F.expected t (F.initiator m))

-- is message n of initiator s in room m
abbrev pub is_message : Floor → ℕ → ℕ → ℕ → Bool
is_message F s n m = is_held F m && (eqb (F.initiator m) s && eqb (F.number m) n)

-- is cart c local to station t
abbrev pub is_local : Floor → ℕ → ℕ → Bool
is_local F t c = local_to (F.place c) t

-- the set of the floor's carts that pass
abbrev pub carts_that : Floor → (ℕ → Bool) → ℕ
carts_that F f = set_of F.carts f

-- a floor with all lent parts written afresh: its mark, how many stations, how many carts
abbrev pub afresh : Bool → ℕ → ℕ → Floor
afresh mark n k =
    record {
      lengths_right = true;
      words_right = true;
      started = mark;
      stations = n;
      carts = k;
      groups = λ g. 0;
      sent = λ s. 0;
      expected = λ t s. 0;
      place = λ c. outside;
      next = λ c s. 0;
      steady = λ c. true;
      initiator = λ m. 0;
      number = λ m. 0;
      named = λ m. 0;
      text = λ m. [];
      acked = λ m. 0;
      waiting = λ m. 0;
      copy = λ m t. 0;
      acks = λ m t. 0;
      queue = λ m t. 0;
      lines = λ i j. [];
    }

-- "it writes all the rest afresh": the floor that an accepted start leaves
abbrev pub just_started : ℕ → ℕ → Floor
just_started n k = afresh true n k

-- the floor that a program begins with
abbrev pub unstarted : Floor
unstarted = afresh false 0 0
