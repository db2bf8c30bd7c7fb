-- THE STARRED EXAMPLES K1 to K10, and further ones of a message with no text, of places in rising order, of groups, of tables, of a retired
-- cart and of the demonstration kit, as rows of one table.
use Rattle.std.specs.Prelude.{Bool, true, false, cond, ◌&&◌, List, [], ◌∷◌, ◌++◌, ℕ, zero, suc, ◌/◌, ◌%◌, eqb, ltb, length, drop, replicate}
use Prim.Native.Char.{code}
use Prim.Native.String.{String, [] as endOfText, ◌∷◌ as ◌then◌}
use Rattle.std.proofs.Common.{arith}
use Rattle.protocol.specs.Floor.{Limits, limits_of, limits, kit, outside, at, Floor, just_started, on_stations, unstarted}
use Rattle.protocol.specs.Events.{Event, start, enter, send, wire, radio, move, send_long, retire, Answer, refused, accepted}
use Rattle.protocol.specs.Form.{passes_form}
use Rattle.protocol.specs.Step.{floor_after, answers}
use Rattle.protocol.specs.Printed.{lines_from, printed_run}
use Rattle.protocol.specs.Closing.{held_count}

-- what an example begins with: the octets of frames; a floor written out and the octets of frames; a floor and events, of which the first so
-- many answers are not shown; a floor and the events that lead from it to the floor that is shown; or a floor alone
pub data Given : Type 0 where
  frames : List ℕ → Given
  frames_on : Floor → List ℕ → Given
  events : Floor → List Event → (hidden : ℕ) → Given
  after : Floor → List Event → Given
  form : Floor → Given

-- what it shows: the printed lines; the answers; how many messages the floor holds; or whether it passes the form rule
pub data Shown : Type 0 where
  printed : List ℕ → Shown
  answered : List Answer → Shown
  holds : ℕ → Shown
  passes : Bool → Shown

-- a row of the table, and within which limits it is: the floor's or the kit's
pub record Row : Type 0 where
  pub within : Limits
  pub given : Given
  pub shown : Shown

-- how many messages a floor holds
abbrev pub held_on : Limits → Floor → ℕ
held_on M F = held_count M F

-- what the written steps say of it
unfoldable pub outcome : Limits → Given → Shown
outcome M (frames octets) = printed (printed_run M octets)
outcome M (frames_on F octets) = printed (lines_from M (suc (length octets)) F 0 octets)
outcome M (events F es hidden) = answered (drop hidden (answers M F es))
outcome M (after F es) = holds (held_on M (floor_after M F es))
outcome M (form F) = passes (passes_form M F)

-- the octets of a text
abbrev pub octets_of : String → List ℕ
octets_of endOfText = []
octets_of (letter then rest) = code letter ∷ octets_of rest

-- a frame: its first three octets, twelve zeros, and the last octet of its set
abbrev pub frame : ℕ → ℕ → ℕ → ℕ → List ℕ
frame x y z set = x ∷ y ∷ z ∷ replicate 12 0 ++ (set ∷ [])

-- an accepted answer: kind, a, b, p, w, q, text
abbrev pub yes : ℕ → ℕ → ℕ → ℕ → ℕ → ℕ → List ℕ → Answer
yes kind a b p w q text = accepted (record { kind = kind; a = a; b = b; p = p; w = w; q = q; text = text })

-- "K1. Two stations, one cart. Frames: start; enter 0 at 0; send from 1 to {0}, text A1; wire 1→1; move 0 to 1; wire 1→0; radio 0, cart 0;
-- wire 1→0; wire 0→1; radio 1, cart 0; wire 1→1; wire 1→0; wire 1→1. The send is 21 00 01, twelve zero octets, 01 A1; the move begins 50 00 40."
abbrev pub K1frames : List ℕ
K1frames =
    frame 0x01 0x00 0x00 0 ++ frame 0x10 0x00 0x00 0 ++ frame 0x21 0x00 0x01 1 ++ (0xa1 ∷ []) ++ frame 0x31 0x00 0x40 0 ++ frame 0x50 0x00 0x40 0
    ++ frame 0x31 0x00 0x00 0 ++ frame 0x40 0x00 0x00 0 ++ frame 0x31 0x00 0x00 0 ++ frame 0x30 0x00 0x40 0 ++ frame 0x41 0x00 0x00 0
    ++ frame 0x31 0x00 0x40 0 ++ frame 0x31 0x00 0x00 0 ++ frame 0x31 0x00 0x40 0

-- "In K1, lines 5 and 8 have q = 1 and the other accepted lines 0."
abbrev pub K1 : Row
K1 =
    record {
      within = limits;
      given = frames K1frames;
      shown = printed
          (octets_of "0 0 2 1 0 0 0\n1 1 0 0 0 0 0\n2 2 1 0 0 2 0\n3 3 1 0 0 0 0\n4 5 0 1 0 1 0\n5 3 1 0 0 0 1\n6 no 16\n7 3 4 0 0 1 0\n8 3 5 0 0 0 1\n9 4 1 0 0 1 0 a1\n10 3 2 0 0 2 0\n11 3 3 0 0 0 0\n12 3 3 0 0 0 0\n");
    }

-- a row of events within such limits, from a floor not yet started
abbrev pub ask_within : Limits → List Event → ℕ → List Answer → Row
ask_within M es hidden shown = record { within = M; given = events unstarted es hidden; shown = answered shown }

-- within the floor's
abbrev pub ask : List Event → ℕ → List Answer → Row
ask es hidden shown = ask_within limits es hidden shown

-- an event so many times
abbrev pub times : ℕ → Event → List Event
times zero e = []
times (suc n) e = e ∷ times n e

-- a send from 0 to {0}, text A1
abbrev pub send0 : Event
send0 = send 0 1 (0xa1 ∷ [])

-- "K2. One station, two carts, cart 0 in, three sends to {0}, three wire steps; cart 1 enters: p = 3."
abbrev pub K2 : Row
K2 = ask (start 1 2 ∷ enter 0 0 ∷ times 3 send0 ++ times 3 (wire 0 0) ++ (enter 0 1 ∷ [])) 8 (yes 1 0 1 3 0 0 [] ∷ [])

-- "K3. Cart 1 local, caught up, not named: the multicast's wire step has p = 1 for it."
abbrev pub K3 : Row
K3 = ask (start 1 2 ∷ enter 0 0 ∷ enter 0 1 ∷ send0 ∷ wire 0 0 ∷ []) 4 (yes 3 1 0 1 0 1 [] ∷ [])

-- "K4. Number 0 from stations 0 and 1 both queued: station 1's is head", in whichever order the two arrive
abbrev pub K4 : Event → Event → Row
K4 one other =
    ask (start 2 1 ∷ enter 0 0 ∷ send 0 1 (0x10 ∷ []) ∷ send 1 1 (0x11 ∷ []) ∷ one ∷ other ∷ radio 0 0 32 ∷ radio 0 0 32 ∷ []) 6
    (yes 4 1 0 0 1 0 (0x11 ∷ []) ∷ yes 4 0 0 0 1 0 (0x10 ∷ []) ∷ [])

-- "K5. Text of 32 accepted, 33 is 4."
abbrev pub K5 : Row
K5 = ask (start 1 1 ∷ enter 0 0 ∷ send 0 1 (replicate 32 7) ∷ send 0 1 (replicate 33 7) ∷ []) 2 (yes 2 0 0 0 1 0 [] ∷ refused 4 ∷ [])

-- "from a floor written out by the definitions": one station that has sent so many messages that the next is the last, and one cart there that
-- has passed them all
abbrev pub near_the_last : ℕ → Floor
near_the_last last =
    record {
      lengths_right = true;
      words_right = true;
      started = true;
      stations = 1;
      carts = 1;
      groups = λ g. 0;
      sent = λ s. cond (eqb s 0) last 0;
      expected = λ t s. cond (eqb t 0 && eqb s 0) last 0;
      place = λ c. cond (eqb c 0) (at 0) outside;
      next = λ c s. cond (eqb c 0 && eqb s 0) last 0;
      steady = λ c. true;
      initiator = λ m. 0;
      number = λ m. 0;
      named = λ m. 0;
      text = λ m. [];
      acked = λ m. 0;
      waiting = λ m. 0;
      copy = λ m t. 0;
      acks = λ m t. 0;
      queue = λ m t. 0;
      lines = λ i j. [];
    }

-- it "passes the form rule", within the limits of which that is the last number
abbrev pub K6form : Limits → ℕ → Row
K6form M last = record { within = M; given = form (near_the_last last); shown = passes true }

-- "K6. Number 65,534 accepted, the next send is 13"; "K6 is kept for the kit and gains a twin for the floor, set up by the definitions and not by a
-- run", of number 4,294,967,294
abbrev pub K6 : Limits → ℕ → Row
K6 M last =
    record { within = M; given = events (near_the_last last) (send0 ∷ send0 ∷ []) 0; shown = answered (yes 2 0 last 0 1 0 [] ∷ refused 13 ∷ []) }

-- 32 messages held, by one station, for one cart
abbrev pub full : List Event
full = start 1 1 ∷ enter 0 0 ∷ times 32 send0

-- "K7. 32 held, send is 14; after one message's last delete is handled, accepted."
abbrev pub K7 : Row
K7 =
    ask (full ++ (send0 ∷ times 32 (wire 0 0)) ++ (radio 0 0 32 ∷ wire 0 0 ∷ wire 0 0 ∷ send0 ∷ [])) 34
    (refused 14 ∷ yes 3 1 0 0 0 1 [] ∷ arrivals 1 31 (yes 4 0 0 0 1 1 (0xa1 ∷ []) ∷ yes 3 2 0 0 1 0 [] ∷ yes 3 3 0 0 0 0 [] ∷ yes 2 0 32 0 1 0 [] ∷ []))
  where
    -- the multicasts with numbers n, n + 1, .. so many of them
    arrivals : ℕ → ℕ → List Answer → List Answer
    arrivals n zero rest = rest
    arrivals n (suc k) rest = yes 3 1 n 0 0 0 [] ∷ arrivals (suc n) k rest

-- "K8. Set empty and 32 held: 11."
abbrev pub K8 : Row
K8 = ask (full ++ (send 0 0 [] ∷ [])) 34 (refused 11 ∷ [])

-- "K9. Move during a hand-off: 19; move to its own station: 20."
abbrev pub K9 : Row
K9 = ask (start 2 1 ∷ enter 0 0 ∷ move 0 0 ∷ move 0 1 ∷ move 0 0 ∷ []) 2 (refused 20 ∷ yes 5 0 1 0 1 0 [] ∷ refused 19 ∷ [])

-- "K10. Library start with 0 or 17 stations: 7."
abbrev pub K10 : Row
K10 = ask (start 0 1 ∷ start 17 1 ∷ []) 0 (refused 7 ∷ refused 7 ∷ [])

-- "as it stands right after the putting", and catch-up is "for every initiator in rising order": the cart arrives where number 0 of stations 0 and 1 waits for it. Its
-- entry of station 0 is put first, at place 1, and that of station 1 then goes before it, at place 1
abbrev pub rising : Row
rising =
    ask (start 2 1 ∷ enter 0 0 ∷ move 0 1 ∷ send0 ∷ send 1 1 (0xa2 ∷ []) ∷ wire 1 0 ∷ wire 0 1 ∷ wire 1 1 ∷ wire 0 1 ∷ []) 8
    (yes 3 5 0 0 0 1 [] ∷ [])

-- "Empty messages already held are still handed out, acknowledged and deleted": "a further starred row, set up as K6 is", from a floor written
-- out by the definitions. One station has sent one message, with no text; it is held, buffered there, and the one cart is queued for it
abbrev pub holds_no_text : Floor
holds_no_text =
    record {
      lengths_right = true;
      words_right = true;
      started = true;
      stations = 1;
      carts = 1;
      groups = λ g. 0;
      sent = λ s. cond (eqb s 0) 1 0;
      expected = λ t s. cond (eqb t 0 && eqb s 0) 1 0;
      place = λ c. cond (eqb c 0) (at 0) outside;
      next = λ c s. 0;
      steady = λ c. true;
      initiator = λ m. 0;
      number = λ m. 0;
      named = λ m. cond (eqb m 0) 1 0;
      text = λ m. [];
      acked = λ m. 0;
      waiting = λ m. cond (eqb m 0) 1 0;
      copy = λ m t. cond (eqb m 0 && eqb t 0) 1 0;
      acks = λ m t. 0;
      queue = λ m t. cond (eqb m 0 && eqb t 0) 1 0;
      lines = λ i j. [];
    }

-- "The form rule still admits them"
abbrev pub no_text_form : Row
no_text_form = record { within = limits; given = form holds_no_text; shown = passes true }

-- "handed out, acknowledged and deleted, and still print -": radio 0, cart 0; wire 0→0 twice. Then a send from 0 to {0} with length 0, which "is
-- now turned away"
abbrev pub no_text : Row
no_text =
    record {
      within = limits;
      given = frames_on holds_no_text (frame 0x40 0x00 0x00 0 ++ frame 0x30 0x00 0x00 0 ++ frame 0x30 0x00 0x00 0 ++ frame 0x20 0x00 0x00 1);
      shown = printed (octets_of "0 4 0 0 0 1 0 -\n1 3 2 0 0 1 0\n2 3 3 0 0 0 0\n3 no 24\n");
    }

-- acknowledged, it is still held
abbrev pub no_text_held : Row
no_text_held = record { within = limits; given = after holds_no_text (radio 0 0 32 ∷ wire 0 0 ∷ []); shown = holds 1 }

-- deleted, it is not, and its room is free
abbrev pub no_text_gone : Row
no_text_gone = record { within = limits; given = after holds_no_text (radio 0 0 32 ∷ wire 0 0 ∷ wire 0 0 ∷ []); shown = holds 0 }

-- NAMED GROUPS: one station, two carts there. A send to group 3, which is not defined; it gets both carts; a send to it, text A1; it is undefined, and
-- a send to it is 26 again; but both carts receive A1, since "A later change of the group touches no message already sent". Kind 15 ends the run
abbrev pub group_changed : Row
group_changed =
    record {
      within = limits;
      given = frames
          (frame 0x00 0x04 0x00 0 ++ frame 0x10 0x00 0x00 0 ++ frame 0x10 0x04 0x00 0 ++ frame 0x80 0x00 0xc1 0 ++ (0xa0 ∷ [])
          ++ frame 0x70 0x00 0xc0 3 ++ frame 0x80 0x00 0xc1 0 ++ (0xa1 ∷ []) ++ frame 0x70 0x00 0xc0 0 ++ frame 0x80 0x00 0xc1 0 ++ (0xa2 ∷ []) ++ frame 0x30 0x00 0x00 0
          ++ frame 0x40 0x00 0x00 0 ++ frame 0x40 0x04 0x00 0 ++ frame 0xf0 0x00 0x00 0);
      shown = printed
          (octets_of "0 0 1 2 0 0 0\n1 1 0 0 0 0 0\n2 1 0 1 0 0 0\n3 no 26\n4 7 3 2 0 0 0\n5 8 0 0 0 1 0\n6 7 3 0 0 0 0\n7 no 26\n8 3 1 0 0 0 1\n9 4 0 0 0 0 0 a1\n10 4 0 0 0 1 0 a1\n11 no 2\n");
    }

-- FULL CALIBRATION TABLES: one station and cart. A table of 33 octets is sent, buffered and handed out; one of 32 is 4, and ends the run. The frame
-- of kind 9: its length is the last sixteen of the forty zero bits
abbrev pub table_frame : ℕ → ℕ → List ℕ
table_frame octets set = 0x90 ∷ 0 ∷ 0 ∷ 0 ∷ 0 ∷ 0 ∷ octets / 256 ∷ octets % 256 ∷ replicate 7 0 ++ (set ∷ [])

abbrev pub table_sent : Row
table_sent =
    record {
      within = limits;
      given = frames
          (frame 0x00 0x00 0x00 0 ++ frame 0x10 0x00 0x00 0 ++ table_frame 33 1 ++ replicate 33 0xa1 ++ frame 0x30 0x00 0x00 0 ++ frame 0x40 0x00 0x00 0
          ++ table_frame 32 1 ++ replicate 32 0xa1);
      shown = printed
          (octets_of "0 0 1 1 0 0 0\n1 1 0 0 0 0 0\n2 9 0 0 0 1 0\n3 3 1 0 0 0 1\n4 4 0 0 0 1 0 a1a1a1a1a1a1a1a1a1a1a1a1a1a1a1a1a1a1a1a1a1a1a1a1a1a1a1a1a1a1a1a1a1\n5 no 4\n");
    }

-- eight tables of 512 octets fill the store: one of 33 is 27; after the first one's last delete it is accepted
abbrev pub tables : List Event
tables = start 1 1 ∷ enter 0 0 ∷ times 8 (send_long 0 1 (replicate 512 7))

abbrev pub store_is_full : Row
store_is_full = ask (tables ++ (send_long 0 1 (replicate 33 7) ∷ [])) 9 (yes 9 0 7 0 1 0 [] ∷ refused 27 ∷ [])

abbrev pub store_is_free : Row
store_is_free =
    ask (tables ++ times 8 (wire 0 0) ++ (radio 0 0 512 ∷ wire 0 0 ∷ wire 0 0 ∷ send_long 0 1 (replicate 33 7) ∷ [])) 20
    (yes 3 3 0 0 0 0 [] ∷ yes 9 0 8 0 1 0 [] ∷ [])

-- A CART GOES BACK TO THE FACTORY: one station and cart, alone in group 3. While a held message names it, it is not retired (29), also once it has
-- received the message; after the last delete it is. Then the group is undefined (26), and a radio step is 16; it enters again, and passes over all
-- that was sent
abbrev pub retired_and_back : Row
retired_and_back =
    record {
      within = limits;
      given = frames
          (frame 0x00 0x00 0x00 0 ++ frame 0x10 0x00 0x00 0 ++ frame 0x70 0x00 0xc0 1 ++ frame 0x20 0x00 0x01 1 ++ (0xa1 ∷ [])
          ++ frame 0x30 0x00 0x00 0 ++ frame 0x40 0x00 0x00 0 ++ frame 0xa0 0x00 0x00 0 ++ frame 0x30 0x00 0x00 0 ++ frame 0x30 0x00 0x00 0 ++ frame 0xa0 0x00 0x00 0
          ++ frame 0x80 0x00 0xc1 0 ++ (0xa2 ∷ []) ++ frame 0x40 0x00 0x00 0 ++ frame 0x10 0x00 0x00 0);
      shown = printed
          (octets_of "0 0 1 1 0 0 0\n1 1 0 0 0 0 0\n2 7 3 1 0 0 0\n3 2 0 0 0 1 0\n4 3 1 0 0 0 1\n5 4 0 0 0 1 0 a1\n6 no 29\n7 3 2 0 0 1 0\n8 3 3 0 0 0 0\n9 10 0 0 0 0 0\n10 no 26\n11 no 16\n12 1 0 0 1 0 0\n");
    }

-- THE DEMONSTRATION KIT: "at most 4 stations, 8 carts and 8 held messages"; "Refusals 5 (form rule ..), 7 and 14 use the caller's limits"

-- 4 stations and 8 carts are accepted
abbrev pub kit_largest : Row
kit_largest = ask_within (limits_of kit) (start 4 8 ∷ []) 0 (yes 0 4 8 0 0 0 [] ∷ [])

-- 7: 5 stations, or 9 carts
abbrev pub kit_too_large : Row
kit_too_large = ask_within (limits_of kit) (start 5 8 ∷ start 4 9 ∷ []) 0 (refused 7 ∷ refused 7 ∷ [])

-- 14: the ninth held message
abbrev pub kit_full : Row
kit_full = ask_within (limits_of kit) (start 1 1 ∷ enter 0 0 ∷ times 9 send0) 9 (yes 2 0 7 0 1 0 [] ∷ refused 14 ∷ [])

-- 5, the form rule: a floor of 5 stations, which passes within the floor's limits, does not within the kit's
abbrev pub started_within : Limits → Bool → Row
started_within M is_right = record { within = M; given = form (just_started 5 8); shown = passes is_right }

-- THE MOST THAT A STEP PASSES OVER: the floor's last numbers are used by all 16 stations, every station has handled all, no message is held, and no
-- cart has entered
abbrev pub all_sent : Floor
all_sent = on_stations (just_started 16 64) (λ s. cond (ltb s 16) 4294967295 0) (λ t s. cond (ltb t 16 && ltb s 16) 4294967295 0)

-- THE TABLE: "The starred examples are gathered as rows of a single proved table over the written steps"
abbrev pub examples : List Row
examples =
    K1 ∷ K2 ∷ K3 ∷ K4 (wire 0 0) (wire 1 0) ∷ K4 (wire 1 0) (wire 0 0) ∷ K5
    ∷ K6form (limits_of kit) 65534 ∷ K6 (limits_of kit) 65534 ∷ K6form limits 4294967294 ∷ K6 limits 4294967294 ∷ K7 ∷ K8 ∷ K9 ∷ K10
    ∷ no_text_form ∷ no_text ∷ no_text_held ∷ no_text_gone ∷ rising ∷ group_changed ∷ table_sent ∷ store_is_full ∷ store_is_free ∷ retired_and_back
    ∷ kit_largest ∷ kit_too_large ∷ kit_full ∷ started_within (limits_of kit) false ∷ started_within limits true ∷ []

-- A RUN OF WHICH A THEOREM SPEAKS: "Two carts are local and named. One receives; the other rolls away before it does." Its deregister sends the
-- first cart's acknowledgement on; it receives at its new station, and every record is handled
abbrev pub rolls_away : List Event
rolls_away =
    start 2 2 ∷ enter 0 0 ∷ enter 0 1 ∷ send 0 3 (0xa1 ∷ []) ∷ wire 0 0 ∷ wire 0 1 ∷ radio 0 0 512 ∷ move 1 1 ∷ wire 1 0 ∷ wire 0 0 ∷ wire 0 1
    ∷ radio 1 1 512 ∷ wire 1 0 ∷ wire 0 0 ∷ wire 0 1 ∷ []

-- AND TWO MORE: "Request 13 covers runs without retirement". A cart receives a message, and all is deleted; then it goes back to the factory and
-- enters again. One station, cart and held message are enough for it
abbrev pub smallest : Limits
smallest = record { stations = 1; carts = 1; held = 1; last = 1; text = 1; long = 2; store = 2; columns = 1; fits = omega arith }

abbrev pub stood_still : List Event
stood_still = start 1 1 ∷ enter 0 0 ∷ send0 ∷ wire 0 0 ∷ radio 0 0 2 ∷ wire 0 0 ∷ wire 0 0 ∷ []

abbrev pub went_back : List Event
went_back = stood_still ++ (retire 0 ∷ enter 0 0 ∷ [])
