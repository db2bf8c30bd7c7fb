-- FRAMES: "Sixteen octets, fields packed most significant bit first"; "a frame is either taken apart into one event or refused".
use Rattle.std.specs.Prelude.{Bool, cond, not, List, [], ◌∷◌, ℕ, zero, suc, ◌+◌, ◌-◌, ◌*◌, ◌/◌, ◌%◌, eqb, ltb, length, take, drop}
use Rattle.protocol.specs.Folds.{is_empty}
use Rattle.protocol.specs.Floor.{Limits, most_text}
use Rattle.protocol.specs.Events.{Event, start, enter, send, wire, radio, move, flag, group, send_group, send_long, retire}
use Rattle.protocol.specs.Store.{not_long}
use Rattle.protocol.specs.Refusals.{check}

-- "kind 4 bits, station 4, cart 6, other 4, length 6, zero 40, set 64"
pub record Fields : Type 0 where
  pub kind : ℕ
  pub station : ℕ
  pub cart : ℕ
  pub other : ℕ
  pub length : ℕ
  pub zero : ℕ
  pub set : ℕ

-- the number whose octets follow those of n, most significant first
unfoldable pub big_endian : ℕ → List ℕ → ℕ
big_endian n [] = n
big_endian n (x ∷ l) = big_endian (n * 256 + x) l

-- the fields: the first five are three octets, zero is the next five, and set the last eight
unfoldable pub fields_of : List ℕ → Fields
fields_of l =
    let head = big_endian 0 (take 3 l) in
    record {
      kind = head / 1048576;
      station = head / 65536 % 16;
      cart = head / 1024 % 64;
      other = head / 64 % 16;
      length = head % 64;
      zero = big_endian 0 (take 5 (drop 3 l));
      set = big_endian 0 (take 8 (drop 8 l));
    }

-- "Kinds: 0 start (station field, cart field), 1 enter (station, cart), 2 send (station, length, set), 3 wire (station = from, other = to),
-- 4 radio (station, cart), 5 move (cart, other = to). Fields not listed for a kind must be zero": the sum of those. "New frame kind 6 carries a
-- cart and, in the other field, 1 for steady or 0 for not; 2 to 15 there is refusal 3": of that field all but the lowest bit must be zero.
-- "Kind 7 carries a group number in the other field and the set", "Kind 8 carries station, group (other field) and length". "Kind 9 is a send ..; the
-- last sixteen of the forty zero bits hold that length, and the six-bit length stays zero": of the forty the upper twenty-four must be zero.
-- "Kind 10 carries a cart"
unfoldable pub unlisted : Fields → ℕ
unlisted f =
    cond (eqb f.kind 2) (f.cart + f.other + f.zero)
    (cond (eqb f.kind 3) (f.cart + f.length + f.zero + f.set)
    (cond (eqb f.kind 5) (f.station + f.length + f.zero + f.set)
    (cond (eqb f.kind 6) (f.station + f.other / 2 + f.length + f.zero + f.set)
    (cond (eqb f.kind 7) (f.station + f.cart + f.length + f.zero)
    (cond (eqb f.kind 8) (f.cart + f.zero + f.set)
    (cond (eqb f.kind 9) (f.cart + f.other + f.length + f.zero / 65536)
    (cond (eqb f.kind 10) (f.station + f.other + f.length + f.zero + f.set)
    (f.other + f.length + f.zero + f.set))))))))

-- how many octets of text follow
abbrev pub text_length : Fields → ℕ
text_length f = cond (eqb f.kind 9) (f.zero % 65536) f.length

-- 4: "text longer than 32"; of kind 9 "other lengths"
abbrev pub wrong_length : Limits → Fields → Bool
wrong_length M f = cond (eqb f.kind 9) (not_long M (text_length f)) (ltb M.text (text_length f))

-- the event of a kind: "station field = stations − 1, cart field = carts − 1" for a start; a radio step's text buffer holds every text
unfoldable pub event_of : Limits → Fields → List ℕ → Event
event_of M f text =
    cond (eqb f.kind 0) (start (suc f.station) (suc f.cart))
    (cond (eqb f.kind 1) (enter f.station f.cart)
    (cond (eqb f.kind 2) (send f.station f.set text)
    (cond (eqb f.kind 3) (wire f.station f.other)
    (cond (eqb f.kind 4) (radio f.station f.cart (most_text M))
    (cond (eqb f.kind 5) (move f.cart f.other)
    (cond (eqb f.kind 6) (flag f.cart (eqb f.other 1))
    (cond (eqb f.kind 7) (group f.other f.set)
    (cond (eqb f.kind 8) (send_group f.station f.other text)
    (cond (eqb f.kind 9) (send_long f.station f.set text)
    (retire f.cart))))))))))

-- what the reader says: "end"; a refusal; or an event, and how many octets it took
pub data Reading : Type 0 where
  end : Reading
  refused_frame : (number : ℕ) → Reading
  taken : Event → (size : ℕ) → Reading

-- "refusal 2 no longer covers a kind once a request defines it": the last that is defined
abbrev pub last_kind : ℕ
last_kind = 10

-- the refusal of a frame with these fields and so many octets behind it, 0 if it is taken apart
unfoldable pub fields_refusal : Limits → Fields → ℕ → ℕ
fields_refusal M f behind =
    check 2 (ltb last_kind f.kind)
    (check 3 (not (eqb (unlisted f) 0))
    (check 4 (wrong_length M f)
    (check 1 (ltb behind (text_length f)) 0)))

-- the refusal of the frame at the front of these octets
unfoldable pub frame_refusal : Limits → List ℕ → ℕ
frame_refusal M l = check 1 (ltb (length l) 16) (fields_refusal M (fields_of l) (length l - 16))

-- the frame at the front of these octets; "A send is followed by its text", and so are kinds 8, "then text", and 9
unfoldable pub frame_of : Limits → List ℕ → Reading
frame_of M l =
    let f = fields_of l in
    let refusal = frame_refusal M l in
    cond (is_empty l) end (cond (eqb refusal 0) (taken (event_of M f (take (text_length f) (drop 16 l))) (16 + text_length f)) (refused_frame refusal))

-- "A reader over the lent frames keeps the octets and the position"; "With no octet left, a position past the end counted so, the reader says end"
unfoldable pub read_at : Limits → List ℕ → ℕ → Reading
read_at M l at = frame_of M (drop at l)

-- the position afterwards: "does not move" at the end, "A refused frame does not move the reader"
abbrev pub moved_to : ℕ → Reading → ℕ
moved_to at end = at
moved_to at (refused_frame r) = at
moved_to at (taken e size) = at + size

-- all frames in these octets, at most so many: "a frame is either taken apart into one event or refused", and a refusal is the last
unfoldable pub frames_from : Limits → ℕ → List ℕ → List Reading
frames_from M zero l = []
frames_from M (suc k) l =
    elim (frame_of M l) [
      | end ↦ []
      | refused_frame r ↦ refused_frame r ∷ []
      | taken e size ↦ taken e size ∷ frames_from M k (drop size l)
    ]

-- there are no more frames than octets
unfoldable pub frames_in : Limits → List ℕ → List Reading
frames_in M l = frames_from M (suc (length l)) l
