-- "TWO RUNS WHOSE EVENTS DIFFER ONLY IN TEXT OCTETS, lengths equal, print the same but for the text": floors, events and answers with every octet of
-- a text read as 0, its length kept. What is the same after that differs only in text octets.
use Rattle.std.specs.Prelude.{cond, ◌||◌, List, [], ◌∷◌, ℕ, suc, eqb, ltb}
use Rattle.protocol.specs.Floor.{Floor, set_texts}
use Rattle.protocol.specs.Events.{Event, start, enter, send, wire, radio, move, flag, group, send_group, send_long, retire, Report, Answer, refused, accepted, Done}
use Rattle.protocol.specs.Frames.{Reading, end, refused_frame, taken}

-- a text
abbrev pub blur_text : List ℕ → List ℕ
blur_text [] = []
blur_text (x ∷ l) = 0 ∷ blur_text l

-- a floor
abbrev pub blur : Floor → Floor
blur F = set_texts F (λ m. blur_text (F.text m))

-- an event
abbrev pub blur_event : Event → Event
blur_event (start n k) = start n k
blur_event (enter t c) = enter t c
blur_event (send s set text) = send s set (blur_text text)
blur_event (wire i j) = wire i j
blur_event (radio t c buffer) = radio t c buffer
blur_event (move c to) = move c to
blur_event (flag c b) = flag c b
blur_event (group g set) = group g set
blur_event (send_group s g text) = send_group s g (blur_text text)
blur_event (send_long s set text) = send_long s set (blur_text text)
blur_event (retire c) = retire c

-- what is reported, and the answer
abbrev pub blur_report : Report → Report
blur_report l = record { kind = l.kind; a = l.a; b = l.b; p = l.p; w = l.w; q = l.q; text = blur_text l.text }

abbrev pub blur_answer : Answer → Answer
blur_answer (refused r) = refused r
blur_answer (accepted l) = accepted (blur_report l)

-- what an event does
abbrev pub blur_done : Done → Done
blur_done d = record { floor = blur d.floor; report = blur_report d.report }

-- FRAMES, and what is printed for them

-- what the reader says
abbrev pub blur_reading : Reading → Reading
blur_reading end = end
blur_reading (refused_frame r) = refused_frame r
blur_reading (taken e size) = taken (blur_event e) size

-- printed octets with every digit of a text read as 0: the text stands behind the seventh blank of its line, a line end ends it, and "- if empty"
-- stays. So many blanks came before on this line
unfoldable pub blur_printed : (blanks : ℕ) → List ℕ → List ℕ
blur_printed blanks [] = []
blur_printed blanks (x ∷ l) =
    cond (eqb x 10) (10 ∷ blur_printed 0 l)
    (cond (eqb x 32) (32 ∷ blur_printed (suc blanks) l)
    (cond (ltb blanks 7 || eqb x 45) (x ∷ blur_printed blanks l)
    (48 ∷ blur_printed blanks l)))
