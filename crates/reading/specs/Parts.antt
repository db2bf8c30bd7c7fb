-- THE PART THAT THE READING CALL LENDS BACK: of which of the two lent slices it is, from which octet on, and how many octets it has.
use Rattle.std.specs.Prelude.{◌≡◌, true, false, cond, List, ℕ, ◌+◌, ◌*◌, leb, take, drop, Result, Ok, Err}
use Rattle.std.specs.Borrow.{Bor}
use Rattle.protocol.specs.Folds.{by_option}
use Rattle.protocol.specs.Floor.{limits_of}
use Rattle.protocol.specs.Handoff.{room_of}
use Rattle.protocol.specs.Form.{passes_form}
use Rattle.protocol.specs.Refusals.{no_station}
use Rattle.protocol.specs.ReadText.{read_text}
use Rattle.messages.specs.View.{Rooms, rooms_in}
use Rattle.messages.specs.Texts.{longest}
use Rattle.view.specs.View.{Lent, floor_in}
use Rattle.refusals.specs.declared.Refusal.{Refusal}
use Rattle.refusals.specs.declared.Refusal.TheVariants.{NotReady, NoSuchStation, NotHeld}
use Rattle.reading.specs.declared.Part.{Part}

-- "that text's own part of the short table or of the long store": of the text in room m, by how many octets it has. The parts of the short table are of
-- 32 octets each, and a long text lies where its row says
abbrev pub part_of : Rooms → ℕ → Part
part_of R m =
    cond (leb (R.length m) longest)
    (record { stored = false; at = m * longest; octets = R.length m })
    (record { stored = true; at = R.offset m; octets = R.length m })

-- "the empty part at the front of the short table"
abbrev pub front_part : Part
front_part = record { stored = false; at = 0; octets = 0 }

-- THE CALL for message n of initiator s, on the floor in lent parts L: "5, 8, then 28 message not held", or the part of the message's text
unfoldable pub read_in : Lent → ℕ → ℕ → Result Part Refusal
read_in L s n =
    cond (passes_form (limits_of L.product) (floor_in L))
    (cond (no_station (floor_in L) s) (Err NoSuchStation)
    (by_option (room_of (limits_of L.product) (floor_in L) s n) (Err NotHeld) (λ m. Ok (part_of (rooms_in L.messages) m))))
    (Err NotReady)

-- the part that is lent back: "refused, it lends back the empty part"
abbrev pub part_in : Result Part Refusal → Part
part_in (Ok p) = p
part_in (Err r) = front_part

-- r is lent from slice s: it points into it, to octet `at`, and has the n octets that lie there
pub record LentFrom (s : Bor (List ℕ)) (at n : ℕ) (r : Bor (List ℕ)) : Type 0 where
  pub place : r.ref_ptr ≡ (s.ref_ptr.0, at + s.ref_ptr.1)
  pub octets : r.now ≡ take n (drop at s.now)

-- the slice that a part is of; and r is lent from it, as the part says
abbrev pub lender : Part → Bor (List ℕ) → Bor (List ℕ) → Bor (List ℕ)
lender p texts store = cond p.stored store texts

abbrev pub IsPart : Part → (texts store r : Bor (List ℕ)) → Type 0
IsPart p texts store r = LentFrom (lender p texts store) p.at p.octets r

-- WHAT IS LENT BACK, r, for message n of initiator s: the octets of the written call, and they are the text's own part of the lent texts or of the lent
-- store, not a copy of it
pub record TextLent (L : Lent) (texts store : Bor (List ℕ)) (s n : ℕ) (r : Bor (List ℕ)) : Type 0 where
  pub text : r.now ≡ read_text (limits_of L.product) (floor_in L) s n
  pub part : IsPart (part_in (read_in L s n)) texts store r
