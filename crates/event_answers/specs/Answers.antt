-- THE ANSWERS, in 01's numbers and values: "index from 0, kind, a, b, p, w. Refused: index, no, refusal".
use Rattle.std.specs.Prelude.{Bool, cond, List, [], ℕ, take, Result, Ok, Err}
use Rattle.protocol.specs.Events.{refused, accepted}
use Rattle.protocol.specs.Events as events
use Rattle.refusals.specs.declared.Refusal.{Refusal}
use Rattle.refusals.specs.Numbers.{number_of}
use Rattle.reports.specs.declared.Effect.{Effect}
use Rattle.reports.specs.declared.Report.{Report}
use Rattle.reports.specs.Effects.{accepted_in}
use Rattle.event_answers.specs.declared.Outcome.{Outcome}
use Rattle.event_answers.specs.declared.Outcome.TheVariants.{Started, Entered, Sent, Buffered, Acknowledged, Deleted, Deregistered, Registered, Received, Moved, Flagged, Grouped, SentToGroup, SentLong, Retired}
use Rattle.event_answers.specs.declared.Accepted.{Accepted}
use Rattle.event_answers.specs.declared.Told.{Told}

-- the answer to an event: what was done and what the step counted, or why it is refused
abbrev pub Answer : Type 0
Answer = Result Accepted Refusal

-- kind, a, b, and what the step counted
abbrev pub values : ℕ → ℕ → ℕ → Effect → Report
values kind a b f = record { kind = kind; a = a; b = b; effect = f }

-- "1 for steady or 0 for not"
abbrev pub flag_number : Bool → ℕ
flag_number steady = cond steady 1 0

-- "a, b: start, stations and carts; enter, station and cart; send, station and number; wire, record kind and message number (cart for 4 and
-- 5); radio, initiator and number; move, cart and to"; of a flag "It prints cart and flag". "Kind 7 prints group and number of members; kind 8 prints
-- as a send, under its own kind", and so does kind 9. Kind 10 "prints the cart, 0"
abbrev pub report_of : Outcome → Effect → Report
report_of (Started n k) f = values 0 n k f
report_of (Entered t c) f = values 1 t.0 c.0 f
report_of (Sent s n) f = values 2 s.0 n.0 f
report_of (Buffered n) f = values 3 1 n.0 f
report_of (Acknowledged n) f = values 3 2 n.0 f
report_of (Deleted n) f = values 3 3 n.0 f
report_of (Deregistered c) f = values 3 4 c.0 f
report_of (Registered c) f = values 3 5 c.0 f
report_of (Received s n size) f = values 4 s.0 n.0 f
report_of (Moved c to) f = values 5 c.0 to.0 f
report_of (Flagged c b) f = values 6 c.0 (flag_number b) f
report_of (Grouped g members) f = values 7 g members f
report_of (SentToGroup s n) f = values 8 s.0 n.0 f
report_of (SentLong s n) f = values 9 s.0 n.0 f
report_of (Retired c) f = values 10 c.0 0 f

-- "Radio adds the text": how many octets; the others add none
abbrev pub text_size : Outcome → ℕ
text_size (Started n k) = 0
text_size (Entered t c) = 0
text_size (Sent s n) = 0
text_size (Buffered n) = 0
text_size (Acknowledged n) = 0
text_size (Deleted n) = 0
text_size (Deregistered c) = 0
text_size (Registered c) = 0
text_size (Received s n size) = size
text_size (Moved c to) = 0
text_size (Flagged c b) = 0
text_size (Grouped g members) = 0
text_size (SentToGroup s n) = 0
text_size (SentLong s n) = 0
text_size (Retired c) = 0

-- what is told of an accepted event
abbrev pub told_of : Accepted → Told
told_of a = record { report = report_of a.outcome a.effect; size = text_size a.outcome }

-- THE WRITTEN ANSWER that this says, with that text
abbrev pub told_in : Told → List ℕ → events.Answer
told_in r text = accepted_in r.report text

-- how many octets of text an answer says that it adds: a refusal adds none
abbrev pub octets_in : Answer → ℕ
octets_in (Ok a) = text_size a.outcome
octets_in (Err refusal) = 0

-- and the written answer that it says: "A refusal gives its number alone"; the text of a radio step stands at the front of these octets
abbrev pub answer_in : Answer → List ℕ → events.Answer
answer_in (Ok a) octets = told_in (told_of a) (take (text_size a.outcome) octets)
answer_in (Err refusal) octets = refused (number_of refusal)

-- one without a text
abbrev pub says : ℕ → ℕ → ℕ → Effect → events.Answer
says kind a b f = accepted_in (values kind a b f) []

-- the text of a written answer: a refusal has none
abbrev pub text_of : events.Answer → List ℕ
text_of (refused r) = []
text_of (accepted l) = l.text
