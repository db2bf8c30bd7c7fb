-- Laws of the decoder's values: what is known of a reading, for the decoder's callers too.
use mathlib.Core.Path.{◌≡◌, refl, sym, ap, ap₂, ◌∙◌}
use mathlib.Core.Bool.{Bool, true, false}
use mathlib.Core.List.{List}
use Prim.{tt}
use Prim.Native.Nat.{ℕ, suc, ◌+◌, ◌-◌, ◌/◌, ◌%◌, ◌^◌, ◌≤◌, ◌<◌}
use native.Mathlib.Omega.{arith}
use lib.Dec.{eqb, ltb}
use lib.ListN.{length, take, drop}
use borrow.Author.Tests.{eq-eqb, ne_eqb, le-ltb, eqb-true, eqb-false, ltb-true, ltb-false}
use Rattle.protocol.proofs.Tests.{by_lt, by_eq, on_cond, clash}
use Rattle.protocol.specs.Floor.{limits}
use Rattle.protocol.specs.Store.{not_long}
use Rattle.protocol.specs.Frames as frames
use Rattle.protocol.specs.Frames.{fields_of, unlisted, text_length, wrong_length, event_of, last_kind, fields_refusal, read_at, refused_frame, taken}
use Rattle.protocol.specs.Events as events
use Rattle.frames.specs.declared.Event.{Event}
use Rattle.frames.specs.declared.Event.TheVariants.{Start, Enter, Send, Wire, Radio, Move, Flag, Group, SendGroup, SendLong, Retire}
use Rattle.std.specs.Prelude.{Option, None, Some, Result, Ok, Err}
use Rattle.refusals.specs.declared.Refusal.{Refusal}
use Rattle.frames.specs.declared.Halves.{Halves}
use Rattle.frames.specs.Decoded.{fields_in, if_listed, if_whole, frame_in, event_in, taken_in, frame_reading, reading_in, size_of, longest_frame, TextFits, refusal_number, refusal_of}
use Rattle.frames.proofs.Laws.{low_fields, send_fields, long_fields, low_sixteen, unlisted_send, unlisted_wire, unlisted_move, unlisted_flag, unlisted_group, unlisted_send_group, unlisted_send_long, unlisted_retire}
use Rattle.frames.proofs.Laws.{long_length, long_wrong, short_length, short_wrong, long_text, short_text, text_at_most}
use Rattle.frames.proofs.Laws.{no_kind, stray_field, wrong_text, cut_text, no_refusal, kind_known, text_right, text_there}
use Rattle.frames.proofs.Laws.{send_long_event, frame_with, nothing_left, cut_frame, refused_frame_lem, taken_frame}

-- FRAMES BY KIND

-- the event of a frame with these fields, at the front of these octets
abbrev event_at : frames.Fields → List ℕ → events.Event
event_at f l = event_of limits f (take (text_length f) (drop 16 l))

module _ (f : frames.Fields) (behind : ℕ) (l : List ℕ) where
  read_refused : (r : ℕ) → r ≡ fields_refusal limits f behind → (r ≡ 0 → ⊥) → refused_frame r ≡ frame_in l f behind
  read_refused r q n = rw (sym q, ne_eqb r 0 n) refl

  read_taken : 0 ≡ fields_refusal limits f behind → frame_with f (take (text_length f) (drop 16 l)) ≡ frame_in l f behind
  read_taken q = rw (sym q) refl

  module _ (k : f.kind ≤ last_kind) where
    -- a number that is zero where the fields not listed are, and is not
    stray_read : (stray : ℕ) → (unlisted f ≡ 0 → stray ≡ 0) → (stray ≡ 0 → ⊥) → refused_frame 3 ≡ frame_in l f behind
    stray_read stray all n = read_refused 3 (stray_field f behind k (ne_eqb (unlisted f) 0 (λ u. n (all u)))) (λ z. omega arith)

    module _ (e : Event) (u : unlisted f ≡ 0) where
      unstray : eqb (unlisted f) 0 ≡ true
      unstray = eq-eqb (unlisted f) 0 u

      -- a frame without a text
      alone_read : (f.kind ≡ 9 → ⊥) → f.length ≡ 0 → event_in l e ≡ event_at f l → size_of e ≡ 16 → frame_reading l (Ok e) ≡ frame_in l f behind
      alone_read short t g s =
          let none = short_length f short in
          let same : size_of e ≡ 16 + text_length f = omega arith in
          ap₂ taken g same ∙ read_taken (no_refusal f behind k unstray (sym (short_wrong f short) ∙ le-ltb 32 (text_length f) (omega arith)) (omega arith))

      -- a frame with a text
      whole_read : (wrong : Bool) (n : ℕ) → wrong ≡ wrong_length limits f → n ≡ text_length f → event_in l e ≡ event_of limits f (take n (drop 16 l)) → size_of e ≡ 16 + n
          → frame_reading l (if_whole wrong n behind e) ≡ frame_in l f behind
      whole_read wrong n is long g s =
          let event : event_in l e ≡ event_at f l = g ∙ ap (λ (m : ℕ). event_of limits f (take m (drop 16 l))) long in
          let size : size_of e ≡ 16 + text_length f = omega arith in
          on_cond (λ (x : Result Event Refusal). frame_reading l x ≡ frame_in l f behind) wrong
          (λ t. read_refused 4 (wrong_text f behind k unstray (sym is ∙ t)) (λ z. omega arith))
          (λ t. on_cond (λ (x : Result Event Refusal). frame_reading l x ≡ frame_in l f behind) (ltb behind n)
          (λ b. read_refused 1 (cut_text f behind k unstray (sym is ∙ t) (let y = ltb-true behind n b in omega arith)) (λ z. omega arith))
          (λ b. ap₂ taken event size ∙ read_taken (no_refusal f behind k unstray (sym is ∙ t) (let y = ltb-false behind n b in omega arith))))

    -- a frame without a text, with a number that is zero where the fields not listed are
    listed_read : (f.kind ≡ 9 → ⊥) → (stray : ℕ) → (stray ≡ 0 → unlisted f ≡ 0) → (unlisted f ≡ 0 → stray ≡ 0) → (unlisted f ≡ 0 → f.length ≡ 0)
        → (e : Event) (r : Result Event Refusal) → r ≡ if_listed stray e → size_of e ≡ 16 → event_in l e ≡ event_at f l → frame_reading l r ≡ frame_in l f behind
    listed_read short stray only all alone e r q s g =
        ap (frame_reading l) q
        ∙ on_cond (λ (x : Result Event Refusal). frame_reading l x ≡ frame_in l f behind) (eqb stray 0)
        (λ t. let u = only (eqb-true stray 0 t) in alone_read e u short (alone u) g s)
        (λ n. stray_read stray all (eqb-false stray 0 n))

-- a station above the low bits that are not listed
retire_sums : (station low other length zeros set : ℕ) → (low + 0 + set ≡ 0 → other + length + zeros + set ≡ 0)
    → low + station + set ≡ 0 → station + other + length + zeros + set ≡ 0
retire_sums station low other length zeros set only z = let y = only (omega arith) in omega arith

retire_back : (station low other length zeros set : ℕ) → (other + length + zeros + set ≡ 0 → low + 0 + set ≡ 0)
    → station + other + length + zeros + set ≡ 0 → low + station + set ≡ 0
retire_back station low other length zeros set all z = let y = all (omega arith) in omega arith

module _ (f : Halves) (behind : ℕ) (l : List ℕ) where
  abbrev fields : frames.Fields
  fields = fields_in f

  pub unknown_read : last_kind < fields.kind → refused_frame 2 ≡ frame_in l fields behind
  unknown_read k = read_refused fields behind l 2 (no_kind fields behind k) (λ z. omega arith)

  module _ (e : Event) (r : Result Event Refusal) where
    -- start, enter, radio: station and cart are listed, and the low bits are those below the cart
    pub station_read : fields.kind < 9 → unlisted fields ≡ fields.other + fields.length + fields.zero + fields.set
        → r ≡ if_listed (f.head % 2 ^ 50 + 0 + f.set) e → size_of e ≡ 16 → event_in l e ≡ event_at fields l → frame_reading l r ≡ frame_in l fields behind
    station_read k u q s g =
        let low = low_fields f.head f.set in
        listed_read fields behind l (omega arith) (λ y. omega arith) (f.head % 2 ^ 50 + 0 + f.set) (λ z. u ∙ low.0 z) (λ z. low.1 (sym u ∙ z)) (λ z. omega (arith, u, z)) e r q s g

    -- wire, move, flag and group: other is listed, the low bits are those below it; what is not listed above it has this sum, and what is not listed of
    -- the set is this
    other_read : (above set : ℕ) → fields.kind < 9 → unlisted fields ≡ above + fields.length + fields.zero + set
        → r ≡ if_listed (f.head % 2 ^ 46 + above + set) e → size_of e ≡ 16 → event_in l e ≡ event_at fields l → frame_reading l r ≡ frame_in l fields behind
    other_read above set k u q s g =
        listed_read fields behind l (omega arith) (λ y. omega arith) (f.head % 2 ^ 46 + above + set) (λ z. omega arith) (λ z. omega arith) (λ z. omega (arith, u, z)) e r q s g

    pub wire_read : fields.kind ≡ 3 → r ≡ if_listed (f.head % 2 ^ 46 + fields.cart + f.set) e → size_of e ≡ 16 → event_in l e ≡ event_at fields l
        → frame_reading l r ≡ frame_in l fields behind
    wire_read k = other_read fields.cart f.set (omega arith) (unlisted_wire fields k)

    pub move_read : fields.kind ≡ 5 → r ≡ if_listed (f.head % 2 ^ 46 + fields.station + f.set) e → size_of e ≡ 16 → event_in l e ≡ event_at fields l
        → frame_reading l r ≡ frame_in l fields behind
    move_read k = other_read fields.station f.set (omega arith) (unlisted_move fields k)

    pub flag_read : fields.kind ≡ 6 → r ≡ if_listed (f.head % 2 ^ 46 + (fields.station + fields.other / 2) + f.set) e → size_of e ≡ 16
        → event_in l e ≡ event_at fields l → frame_reading l r ≡ frame_in l fields behind
    flag_read k = other_read (fields.station + fields.other / 2) f.set (omega arith) (unlisted_flag fields k)

    pub group_read : fields.kind ≡ 7 → r ≡ if_listed (f.head % 2 ^ 46 + (fields.station + fields.cart) + 0) e → size_of e ≡ 16
        → event_in l e ≡ event_at fields l → frame_reading l r ≡ frame_in l fields behind
    group_read k = let u = unlisted_group fields k in other_read (fields.station + fields.cart) 0 (omega arith) (omega (arith, u))

    -- retire: of the head the cart alone is listed, and the low bits are those below it
    pub retire_read : fields.kind ≡ 10 → r ≡ if_listed (f.head % 2 ^ 50 + fields.station + f.set) e → size_of e ≡ 16
        → event_in l e ≡ event_at fields l → frame_reading l r ≡ frame_in l fields behind
    retire_read k q s g =
        let u = unlisted_retire fields k in
        let low = low_fields f.head f.set in
        listed_read fields behind l (omega arith) (λ y. omega arith) (f.head % 2 ^ 50 + fields.station + f.set)
        (λ z. u ∙ retire_sums fields.station (f.head % 2 ^ 50) fields.other fields.length fields.zero f.set low.0 z)
        (λ z. retire_back fields.station (f.head % 2 ^ 50) fields.other fields.length fields.zero f.set low.1 (sym u ∙ z))
        (λ z. omega (arith, u, z)) e r q s g

    -- send, to a set or to a group, with no stray field: the low bits are those below the length
    short_read : fields.kind < 9 → unlisted fields ≡ 0 → r ≡ if_whole (ltb 32 fields.length) fields.length behind e
        → size_of e ≡ 16 + fields.length → event_in l e ≡ event_of limits fields (take fields.length (drop 16 l)) → frame_reading l r ≡ frame_in l fields behind
    short_read k u q s g =
        let short = short_length fields (λ y. omega arith) in
        let wrong = ap (ltb 32) short ∙ short_wrong fields (λ y. omega arith) in
        ap (frame_reading l) q ∙ whole_read fields behind l (omega arith) e u (ltb 32 fields.length) fields.length wrong short g s

    pub send_read : fields.kind ≡ 2 → f.head % 2 ^ 40 + f.head / 2 ^ 46 % 1024 ≡ 0 → r ≡ if_whole (ltb 32 fields.length) fields.length behind e
        → size_of e ≡ 16 + fields.length → event_in l e ≡ event_of limits fields (take fields.length (drop 16 l)) → frame_reading l r ≡ frame_in l fields behind
    send_read k z = short_read (omega arith) (unlisted_send fields k ∙ (send_fields f.head).0 z)

    pub send_group_read : fields.kind ≡ 8 → f.head % 2 ^ 40 + fields.cart + f.set ≡ 0 → r ≡ if_whole (ltb 32 fields.length) fields.length behind e
        → size_of e ≡ 16 + fields.length → event_in l e ≡ event_of limits fields (take fields.length (drop 16 l)) → frame_reading l r ≡ frame_in l fields behind
    send_group_read k z = let u = unlisted_send_group fields k in short_read (omega arith) (omega (arith, u, z))

    -- a long send: its length is the last sixteen bits, which are of the zero field
    pub send_long_read : fields.kind ≡ 9 → f.head % 2 ^ 40 / 65536 + f.head / 2 ^ 40 % 65536 ≡ 0
        → r ≡ if_whole (not_long limits (f.head % 65536)) (f.head % 65536) behind e
        → size_of e ≡ 16 + f.head % 65536 → event_in l e ≡ event_of limits fields (take (f.head % 65536) (drop 16 l)) → frame_reading l r ≡ frame_in l fields behind
    send_long_read k z q s g =
        let u = unlisted_send_long fields k ∙ (long_fields f.head).0 (omega arith) in
        let long = low_sixteen f.head ∙ long_length fields k in
        let wrong = ap (not_long limits) long ∙ long_wrong fields k in
        ap (frame_reading l) q ∙ whole_read fields behind l (omega arith) e u (not_long limits (f.head % 65536)) (f.head % 65536) wrong long g s

  -- with one
  pub send_stray : fields.kind ≡ 2 → (f.head % 2 ^ 40 + f.head / 2 ^ 46 % 1024 ≡ 0 → ⊥) → refused_frame 3 ≡ frame_in l fields behind
  send_stray k = stray_read fields behind l (omega arith) (f.head % 2 ^ 40 + f.head / 2 ^ 46 % 1024) (λ z. (send_fields f.head).1 (sym (unlisted_send fields k) ∙ z))

  pub send_group_stray : fields.kind ≡ 8 → (f.head % 2 ^ 40 + fields.cart + f.set ≡ 0 → ⊥) → refused_frame 3 ≡ frame_in l fields behind
  send_group_stray k = let u = unlisted_send_group fields k in stray_read fields behind l (omega arith) (f.head % 2 ^ 40 + fields.cart + f.set) (λ z. omega (arith, u, z))

  pub send_long_stray : fields.kind ≡ 9 → (f.head % 2 ^ 40 / 65536 + f.head / 2 ^ 40 % 65536 ≡ 0 → ⊥) → refused_frame 3 ≡ frame_in l fields behind
  send_long_stray k n = stray_read fields behind l (omega arith) (f.head % 2 ^ 40 / 65536 + f.head / 2 ^ 40 % 65536) (λ z. let y = (long_fields f.head).1 (sym (unlisted_send_long fields k) ∙ z) in omega arith) n

-- the frame at a place
pub frame_read : (l : List ℕ) (at : ℕ) (f : frames.Fields) → 16 ≤ length l - at → f ≡ fields_of (drop at l)
    → frame_in (drop at l) f (length l - at - 16) ≡ read_at limits l at
frame_read l at f h e =
    by_eq (fields_refusal limits f (length l - at - 16)) 0
    (λ z. sym (read_taken f (length l - at - 16) (drop at l) (sym z)) ∙ taken_frame l at f h e (sym z))
    (λ n. sym (read_refused f (length l - at - 16) (drop at l) _ refl n) ∙ refused_frame_lem l at f h e _ refl n)

-- EVENTS

-- the frame of an event that was taken: its fields are not refused, and its octets are there
taken_fields : (l : List ℕ) (at : ℕ) (e : events.Event) (n : ℕ) → read_at limits l at ≡ taken e n
    → (fields_refusal limits (fields_of (drop at l)) (length l - at - 16) ≡ 0) × (taken e n ≡ frame_with (fields_of (drop at l)) (take (text_length (fields_of (drop at l))) (drop 16 (drop at l)))) × (at + 16 ≤ length l)
taken_fields l at e n q =
    by_lt at (length l)
    (λ h. by_lt (length l - at) 16
    (λ s. absurd (let z : ◌≡◌ {A = ℕ} 0 1 = cc (cut_frame l at h s) in omega arith))
    (λ s. by_eq (fields_refusal limits f (length l - at - 16)) 0
    (λ r. (r, sym q ∙ sym (taken_frame l at f s refl (sym r)), omega arith))
    (λ r. absurd (let z : ◌≡◌ {A = ℕ} 0 1 = cc (refused_frame_lem l at f s refl _ refl r) in omega arith))))
    (λ h. absurd (let z : ◌≡◌ {A = ℕ} 0 1 = cc (nothing_left l at h) in omega arith))
  where
    f : frames.Fields
    f = fields_of (drop at l)

-- where an event was taken, its octets are there, and its text is not too long
pub taken_inside : (l : List ℕ) (at : ℕ) (e : events.Event) (n : ℕ) → read_at limits l at ≡ taken e n → (at + n ≤ length l) × (n ≤ longest_frame)
taken_inside l at e n q =
    let f = fields_of (drop at l) in
    let z = taken_fields l at e n q in
    let w : n ≡ 16 + text_length f = cc z.1 in
    let r = z.0 in
    let t = text_at_most f (text_right f (length l - at - 16) (omega arith)) in
    let b = text_there f (length l - at - 16) r in
    let some = z.2 in
    (omega arith, omega arith)

-- only kind 9 is a long send
abbrev is_long : events.Event → Bool
is_long (events.start n k) = false
is_long (events.enter t c) = false
is_long (events.send s set text) = false
is_long (events.wire i j) = false
is_long (events.radio t c n) = false
is_long (events.move c to) = false
is_long (events.flag c b) = false
is_long (events.group g set) = false
is_long (events.send_group s g text) = false
is_long (events.send_long s set text) = true
is_long (events.retire c) = false

module _ (f : frames.Fields) (text : List ℕ) where
  abbrev Short : Type 0
  Short = is_long (event_of limits f text) ≡ false

  at_most : (n : ℕ) → (f.kind ≡ n → Short) → (f.kind < n → Short) → f.kind < suc n → Short
  at_most n here below h = by_lt f.kind n below (λ m. here (omega arith))

  short_below : f.kind < 9 → Short
  unfolding event_of
  short_below =
      at_most 8 (λ z. rw z refl) (at_most 7 (λ z. rw z refl) (at_most 6 (λ z. rw z refl) (at_most 5 (λ z. rw z refl) (at_most 4 (λ z. rw z refl)
      (at_most 3 (λ z. rw z refl) (at_most 2 (λ z. rw z refl) (at_most 1 (λ z. rw z refl) (at_most 0 (λ z. rw z refl) (λ none. absurd (omega arith))))))))))

  not_long_lem : (f.kind ≡ 9 → ⊥) → f.kind ≤ last_kind → Short
  unfolding event_of
  not_long_lem other k = by_eq f.kind 10 (λ z. rw z refl) (λ z. short_below (by_lt f.kind 9 (λ l. l) (λ l. absurd (other (omega arith)))))

module _ (l : List ℕ) (f : frames.Fields) (text : List ℕ) (k : f.kind ≤ last_kind) (w : wrong_length limits f ≡ false) where
  short_fits : (e : Event) (n : ℕ) → is_long (event_in l e) ≡ false → event_in l e ≡ event_of limits f text → 16 + n ≡ 16 + text_length f → n ≤ 32
  short_fits e n short g s =
      by_eq f.kind 9
      (λ nine. clash true refl (ap is_long (send_long_event f text nine ∙ sym g) ∙ short))
      (λ other. let z = short_text f w other in omega arith)

  -- the text of an event that was taken has a length that its kind may have
  event_fits : (e : Event) → event_in l e ≡ event_of limits f text → size_of e ≡ 16 + text_length f → TextFits e
  event_fits (Start n j) g s = tt
  event_fits (Enter t c) g s = tt
  event_fits (Send u set n) g s = short_fits (Send u set n) n refl g s
  event_fits (Wire i j) g s = tt
  event_fits (Radio t c) g s = tt
  event_fits (Move c to) g s = tt
  event_fits (Flag c b) g s = tt
  event_fits (Group x set) g s = tt
  event_fits (SendGroup u x n) g s = short_fits (SendGroup u x n) n refl g s
  event_fits (Retire c) g s = tt
  event_fits (SendLong u set n) g s =
      by_eq f.kind 9
      (λ nine. let z = long_text f w nine in let a = z.0 in let b = z.1 in (omega arith, omega arith))
      (λ other. clash true refl (ap is_long g ∙ not_long_lem f text other k))

module _ (l : List ℕ) (at : ℕ) (r : Result (Option Event) Refusal) (read : reading_in (drop at l) r ≡ read_at limits l at) where
  -- the same for the decoder's event
  module _ (e : Event) (q : r ≡ Ok (Some e)) where
    there : read_at limits l at ≡ taken_in (drop at l) e
    there = sym read ∙ ap (λ (x : Result (Option Event) Refusal). reading_in (drop at l) x) q

    pub event_inside : (at + size_of e ≤ length l) × (size_of e ≤ longest_frame)
    event_inside = taken_inside l at _ (size_of e) there

    pub text_fits : TextFits e
    text_fits =
        let f = fields_of (drop at l) in
        let z = taken_fields l at _ (size_of e) there in
        let none = z.0 in
        let one : fields_refusal limits f (length l - at - 16) ≤ 1 = omega arith in
        let event : event_in (drop at l) e ≡ event_at f (drop at l) = cc z.1 in
        let size : size_of e ≡ 16 + text_length f = cc z.1 in
        event_fits (drop at l) f _ (kind_known f (length l - at - 16) one) (text_right f (length l - at - 16) one) e event size

  -- its refusal number
  pub same_number : refusal_of r ≡ refusal_number (read_at limits l at)
  same_number = written r ∙ ap refusal_number read
    where
      written : (x : Result (Option Event) Refusal) → refusal_of x ≡ refusal_number (reading_in (drop at l) x)
      written (Ok None) = refl
      written (Ok (Some e)) = refl
      written (Err n) = refl
