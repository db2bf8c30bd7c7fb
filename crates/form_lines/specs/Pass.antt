-- THE FORM TEST OF THE LINES, in one pass over their records.
use Rattle.std.specs.Prelude.{Bool, false, cond, ◌&&◌, ◌||◌, not, List, [], ◌∷◌, ℕ, zero, suc, ◌^◌, eqb, leb, ltb, get_or, set}
use Rattle.protocol.specs.Folds.{every, list_of}
use Rattle.protocol.specs.CartSets.{has, union, with, set_of}
use Rattle.protocol.specs.Floor.{Place, outside, at, leaving, travelling, Carts, moving}
use Rattle.sets.specs.Masks.{within, disjoint}
use Rattle.stations.specs.View.{Stations, stations_in, head_in}
use Rattle.carts.specs.View.{carts_in}
use Rattle.messages.specs.View.{Rooms, rooms_in}
use Rattle.lines.specs.Lines.{registers_in}
use Rattle.view.specs.Records.{is_in}
use Rattle.view.specs.View.{Lent}
use Rattle.form_lines.specs.Said.{Said, a_multicast, an_ack_list, a_delete, a_deregister, a_register, unknown, said_on}

-- WHAT HAS BEEN MET ON THE WAY
pub record Noted : Type 0 where
  -- nothing was wrong
  pub ok : Bool
  -- on this line: the number of its next multicast
  pub next : ℕ
  -- on this line: the rooms whose delete was met
  pub gone : ℕ
  -- the carts whose hand-off was met
  pub found : ℕ
  -- of each room, the carts whose acknowledgement was met
  pub seen : List ℕ

abbrev pub noted_so : Bool → ℕ → ℕ → ℕ → List ℕ → Noted
noted_so ok next gone found seen = record { ok = ok; next = next; gone = gone; found = found; seen = seen }

-- the carts whose acknowledgement for room m was met
abbrev pub seen_in : List ℕ → ℕ → ℕ
seen_in seen m = get_or seen m 0

-- a record against what was met before it: multicasts count up, a delete is of a number passed before it and met once, an acknowledgement
-- stands in one place, a cart has one hand-off
unfoldable pub fresh : Noted → Said → Bool
fresh s (a_multicast m n) = eqb n s.next
fresh s (an_ack_list m n x) = disjoint 64 x (seen_in s.seen m)
fresh s (a_delete m n) = ltb n s.next && not (has s.gone m)
fresh s (a_deregister c) = not (has s.found c)
fresh s (a_register c) = not (has s.found c)
fresh s (unknown x) = false

-- what was met once the record is
unfoldable pub note : Noted → Said → Noted
note s (a_multicast m n) = noted_so s.ok (suc s.next) s.gone s.found s.seen
note s (an_ack_list m n x) = noted_so s.ok s.next s.gone s.found (set s.seen m (union (seen_in s.seen m) x))
note s (a_delete m n) = noted_so s.ok s.next (with s.gone m) s.found s.seen
note s (a_deregister c) = noted_so s.ok s.next s.gone (with s.found c) s.seen
note s (a_register c) = noted_so s.ok s.next s.gone (with s.found c) s.seen
note s (unknown x) = s

-- it holds, or something was wrong
abbrev pub provided : Bool → Noted → Noted
provided b s = noted_so (s.ok && b) s.next s.gone s.found s.seen

-- PLACES: leaving s for u; travelling from s to u
abbrev pub is_leaving : Place → ℕ → ℕ → Bool
is_leaving outside s u = false
is_leaving (at t) s u = false
is_leaving (leaving t v) s u = eqb t s && eqb v u
is_leaving (travelling t v) s u = false

abbrev pub is_travelling : Place → ℕ → ℕ → Bool
is_travelling outside s u = false
is_travelling (at t) s u = false
is_travelling (leaving t v) s u = false
is_travelling (travelling t v) s u = eqb t s && eqb v u

-- two rows have the same sixteen numbers
abbrev pub same_numbers : (ℕ → ℕ) → (ℕ → ℕ) → Bool
same_numbers f g = every 16 (λ s. eqb (f s) (g s))

-- message number x of s is in room m, which is one of the rooms
abbrev pub in_room : Rooms → ℕ → ℕ → ℕ → Bool
in_room R s x m = ltb m 32 && is_in R s x m

-- ONE RECORD, on a floor of n stations and k carts, where `carried c` is the row that the register of cart c carries
module _ (n k : ℕ) (C : Carts) (R : Rooms) (carried : ℕ → ℕ → ℕ) where
  -- a record on the line from i to j against the tables: its message is in its room, and j has yet to handle its delete; an ack list is of
  -- some carts of the floor; a delete is of a message that the whole set has acknowledged; a hand-off is that of a cart on this way, and a
  -- register carries the cart's next numbers
  unfoldable pub right : ℕ → ℕ → Said → Bool
  right i j (a_multicast m x) = in_room R i x m && has (R.waiting m) j
  right i j (an_ack_list m x y) = in_room R j x m && (ltb 0 y && ltb y (2 ^ k))
  right i j (a_delete m x) = in_room R i x m && (has (R.waiting m) j && eqb (R.acked m) (R.named m))
  right i j (a_deregister c) = ltb c k && is_leaving (C.place c) j i
  right i j (a_register c) = ltb c k && (is_travelling (C.place c) i j && same_numbers (carried c) (C.next c))
  right i j (unknown x) = false

  -- only lines between stations of the floor have records
  unfoldable pub fits : Noted → ℕ → ℕ → Said → Bool
  fits s i j r = (ltb i n && ltb j n) && (right i j r && fresh s r)

  -- the next record of the line from i to j
  unfoldable pub meet : Noted → ℕ → ℕ → Said → Noted
  meet s i j r = cond (s.ok && fits s i j r) (note s r) (provided false s)

  -- ONE LINE: its records one after the other
  unfoldable pub along : Noted → ℕ → ℕ → List Said → Noted
  along s i j [] = s
  along s i j (r ∷ l) = along (meet s i j r) i j l

-- ALL LINES in the pool, whose words have the rows of the registers too
module _ (n k : ℕ) (C : Carts) (R : Rooms) (S : Stations) (words : List ℕ) where
  -- the line from i to j: its multicasts run from the number that j expects up to what i has sent
  unfoldable pub on_line : Noted → ℕ → ℕ → Noted
  on_line s i j =
      let e = along n k C R (registers_in words) (noted_so s.ok (S.expected j i) 0 s.found s.seen) i j (said_on words i j) in
      provided (not (ltb j n) || eqb e.next (S.sent i)) e

  -- the lines from i to the first stations
  unfoldable pub from_station : Noted → ℕ → ℕ → Noted
  from_station s i zero = s
  from_station s i (suc j) = on_line (from_station s i j) i j

  -- the lines from the first stations
  unfoldable pub from_each : Noted → ℕ → Noted
  from_each s zero = s
  from_each s (suc i) = from_station (from_each s i) i 16

-- BEFORE THE LINES: an acknowledgement at the initiator, and in the ack lists of the stations, of room m
unfoldable pub gathered : Stations → Rooms → ℕ → ℕ → ℕ
gathered S R m zero = R.acked m
gathered S R m (suc t) = union (gathered S R m t) (S.acks m t)

-- stands in one place
unfoldable pub apart : Stations → Rooms → ℕ → ℕ → Bool
apart S R m n = every n (λ t. disjoint 64 (S.acks m t) (gathered S R m t))

-- is room m taken
abbrev pub is_taken : Rooms → ℕ → Bool
is_taken R m = not (eqb (R.waiting m) 0)

-- what was met before the first line, on a floor of n stations
unfoldable pub begun : ℕ → Stations → Rooms → Noted
begun n S R = noted_so (every 32 (λ m. not (is_taken R m) || apart S R m n)) 0 0 0 (list_of 32 (λ m. gathered S R m n))

-- AFTER THE LINES: whoever acknowledged the message in room m is named, and its next number is above, on a floor of k carts
unfoldable pub passed : ℕ → Carts → Rooms → ℕ → ℕ → Bool
passed k C R m x = every k (λ c. not (has x c) || ltb (R.number m) (C.next c (R.initiator m)))

unfoldable pub ended : ℕ → Carts → Rooms → List ℕ → ℕ → Bool
ended k C R seen m = not (is_taken R m) || (within 64 (seen_in seen m) (R.named m) && passed k C R m (seen_in seen m))

-- the carts leaving or travelling
unfoldable pub movers : ℕ → Carts → ℕ
movers k C = set_of k (λ c. moving (C.place c))

-- THE PASS, on a floor of n stations and k carts
unfoldable pub passes : ℕ → ℕ → Stations → Carts → Rooms → List ℕ → Bool
passes n k S C R words =
    let e = from_each n k C R S words (begun n S R) 16 in
    e.ok && (eqb e.found (movers k C) && every 32 (ended k C R e.seen))

-- of the lent parts
unfoldable pub lines_pass : Lent → Bool
lines_pass L =
    let H = head_in L.stations in
    (leb H.stations 16 && leb H.carts 64)
    && passes H.stations H.carts (stations_in L.stations) (carts_in L.carts) (rooms_in L.messages) L.lines
