-- What the decoder's values say, in the words of the written steps.
use Rattle.std.specs.Prelude.{Bool, cond, List, [], ℕ, ◌+◌, ◌/◌, ◌%◌, ◌^◌, ◌≤◌, ◌<◌, eqb, ltb, take, drop, Option, None, Some, Result, Ok, Err}
use Prim.{Unit}
use Rattle.refusals.specs.declared.Refusal.{Refusal}
use Rattle.refusals.specs.declared.Refusal.TheVariants.{CutShort, StrayField, WrongLength}
use Rattle.refusals.specs.Numbers.{number_of}
use Rattle.protocol.specs.Floor.{limits, most_text}
use Rattle.protocol.specs.Events.{start, enter, send, wire, radio, move, flag, group, send_group, send_long, retire}
use Rattle.protocol.specs.Events as events
use Rattle.protocol.specs.Frames.{Fields, text_length, event_of, fields_refusal, end, refused_frame, taken}
use Rattle.protocol.specs.Frames as frames
use Rattle.frames.specs.declared.Event.{Event}
use Rattle.frames.specs.declared.Event.TheVariants.{Start, Enter, Send, Wire, Radio, Move, Flag, Group, SendGroup, SendLong, Retire}
use Rattle.frames.specs.declared.Halves.{Halves}

-- the event, with these octets from its frame on: "A send is followed by its text", and so are a send to a group and a long one; a radio step's text
-- buffer holds every text
abbrev pub event_in : List ℕ → Event → events.Event
event_in l (Start n k) = start n k
event_in l (Enter t c) = enter t.0 c.0
event_in l (Send s set n) = send s.0 set (take n (drop 16 l))
event_in l (Wire i j) = wire i.0 j.0
event_in l (Radio t c) = radio t.0 c.0 (most_text limits)
event_in l (Move c to) = move c.0 to.0
event_in l (Flag c b) = flag c.0 b
event_in l (Group g set) = group g set
event_in l (SendGroup s g n) = send_group s.0 g (take n (drop 16 l))
event_in l (SendLong s set n) = send_long s.0 set (take n (drop 16 l))
event_in l (Retire c) = retire c.0

-- how many octets it took: "Sixteen octets", and the text of a send of any kind
abbrev pub size_of : Event → ℕ
size_of (Start n k) = 16
size_of (Enter t c) = 16
size_of (Send s set n) = 16 + n
size_of (Wire i j) = 16
size_of (Radio t c) = 16
size_of (Move c to) = 16
size_of (Flag c b) = 16
size_of (Group g set) = 16
size_of (SendGroup s g n) = 16 + n
size_of (SendLong s set n) = 16 + n
size_of (Retire c) = 16

-- how many it takes at most
abbrev pub longest_frame : ℕ
longest_frame = 16 + most_text limits

-- its text is as long as its kind of send may have it: "Text of 32 accepted", and of a long one "33 to 512 octets"
abbrev pub TextFits : Event → Type 0
TextFits (Start n k) = Unit
TextFits (Enter t c) = Unit
TextFits (Send s set n) = n ≤ limits.text
TextFits (Wire i j) = Unit
TextFits (Radio t c) = Unit
TextFits (Move c to) = Unit
TextFits (Flag c b) = Unit
TextFits (Group g set) = Unit
TextFits (SendGroup s g n) = n ≤ limits.text
TextFits (SendLong s set n) = (limits.text < n) × (n ≤ limits.long)
TextFits (Retire c) = Unit

-- an event that was taken
abbrev pub taken_in : List ℕ → Event → frames.Reading
taken_in l e = taken (event_in l e) (size_of e)

-- the frame at the front of these octets: "a frame is either taken apart into one event or refused"
abbrev pub frame_reading : List ℕ → Result Event Refusal → frames.Reading
frame_reading l (Ok e) = taken_in l e
frame_reading l (Err r) = refused_frame (number_of r)

-- what was read at the front of these octets: nothing where none is left, and else the frame
abbrev pub reading_in : List ℕ → Result (Option Event) Refusal → frames.Reading
reading_in l (Ok None) = end
reading_in l (Ok (Some e)) = taken_in l e
reading_in l (Err r) = refused_frame (number_of r)

-- the refusal number of what was read, 0 for an event and for "end"
abbrev pub refusal_number : frames.Reading → ℕ
refusal_number end = 0
refusal_number (refused_frame r) = r
refusal_number (taken e size) = 0

-- the same of the decoder's reading, for which the octets do not matter
abbrev pub refusal_of : Result (Option Event) Refusal → ℕ
refusal_of r = refusal_number (reading_in [] r)

-- FRAMES

-- the fields of a frame: "kind 4 bits, station 4, cart 6, other 4, length 6, zero 40, set 64"
abbrev pub fields_in : Halves → Fields
fields_in f =
    let head = f.head in
    record {
      kind = head / 2 ^ 60;
      station = head / 2 ^ 56 % 16;
      cart = head / 2 ^ 50 % 64;
      other = head / 2 ^ 46 % 16;
      length = head / 2 ^ 40 % 64;
      zero = head % 2 ^ 40;
      set = f.set;
    }

-- an event whose frame has fields of this sum not listed for its kind: "Fields not listed for a kind must be zero"
abbrev pub if_listed : ℕ → Event → Result Event Refusal
if_listed n e = cond (eqb n 0) (Ok e) (Err StrayField)

-- an event with a text of this length, which may be wrong for its kind, and so many octets behind its frame: 4, "Text of 32 accepted, 33 is 4", "for
-- kind 9, 4 for other lengths", and then 1, "fewer text octets than the length"
abbrev pub if_whole : (wrong : Bool) → ℕ → ℕ → Event → Result Event Refusal
if_whole wrong length behind e = cond wrong (Err WrongLength) (cond (ltb behind length) (Err CutShort) (Ok e))

-- the reading of a frame with these fields, at the front of these octets, and so many octets behind it
abbrev pub frame_in : List ℕ → Fields → ℕ → frames.Reading
frame_in l f behind =
    let refusal = fields_refusal limits f behind in
    cond (eqb refusal 0) (taken (event_of limits f (take (text_length f) (drop 16 l))) (16 + text_length f)) (refused_frame refusal)
