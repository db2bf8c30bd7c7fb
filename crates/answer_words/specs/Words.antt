-- WHAT A CALL FROM ANOTHER LANGUAGE IS TOLD: the answer of its event, in eight words.
use Rattle.std.specs.Prelude.{◌≡◌, cond, List, ℕ, set, Result, Ok, Err}
use Rattle.protocol.specs.Events.{Event}
use Rattle.view.specs.View.{Lent}
use Rattle.refusals.specs.declared.Refusal.{Refusal}
use Rattle.refusals.specs.Numbers.{number_of, refusal_in}
use Rattle.event_answers.specs.declared.Told.{Told}
use Rattle.event_answers.specs.Answers.{Answer, answer_in, told_of}
use Rattle.event_answers.specs.Met.{Met}
use Rattle.event_answers.specs.Delivered.{Delivered}
use Rattle.dispatcher.specs.Called.{QuietMet}
use Rattle.reading.specs.declared.Part.{Part}
use Rattle.reading.specs.Parts.{part_in}

-- the first eight words are these, and the others as they were
unfoldable pub answer_row : List ℕ → ℕ → ℕ → ℕ → ℕ → ℕ → ℕ → ℕ → ℕ → List ℕ
answer_row out refusal kind a b p w q size = set (set (set (set (set (set (set (set out 0 refusal) 1 kind) 2 a) 3 b) 4 p) 5 w) 6 q) 7 size

-- a refusal's number, or 0; "kind, a, b, p, w", q; how many octets of text: of an accepted event
abbrev pub words_of : List ℕ → Told → List ℕ
words_of out r =
    answer_row out 0 r.report.kind r.report.a r.report.b
    r.report.effect.passed r.report.effect.records r.report.effect.place r.size

-- and of each answer
abbrev pub answer_words : List ℕ → Answer → List ℕ
answer_words out (Ok a) = words_of out (told_of a)
answer_words out (Err r) = answer_row out (number_of r) 0 0 0 0 0 0 0

-- the event was met with an answer, and the lent words out are then those of this answer, out'
pub record Answered (L L' : Lent) (e : Event) (octets out out' : List ℕ) : Type 0 where
  pub answered : Answer
  pub met : Met L L' e (answer_in answered octets)
  pub words : out' ≡ answer_words out answered

-- the same of a radio step, which left its buffer as buffer'
pub record AnsweredText (L L' : Lent) (t c : ℕ) (buffer buffer' out out' : List ℕ) : Type 0 where
  pub answered : Answer
  pub delivered : Delivered L L' t c answered buffer buffer'
  pub words : out' ≡ answer_words out answered

-- a floor that was run until it is quiet: a refusal's number, or 0, and "how many steps it took", in the first two words
abbrev pub quiet_words : List ℕ → Result ℕ Refusal → List ℕ
quiet_words out (Ok steps) = set (set out 0 0) 1 steps
quiet_words out (Err r) = set (set out 0 (number_of r)) 1 0

-- the call was met with an answer, and the lent words out are then those of this answer, out'
pub record AnsweredQuiet (L L' : Lent) (buffer buffer' out out' : List ℕ) : Type 0 where
  pub answered : Result ℕ Refusal
  pub met : QuietMet L L' buffer buffer' answered
  pub words : out' ≡ quiet_words out answered

-- a part, in the first four words, behind a refusal's number, or 0: the slice that the text's part is of, 1 for the store and 0 for the short table; from
-- which octet on, and how many octets
abbrev pub part_row : List ℕ → ℕ → Part → List ℕ
part_row out refusal p = set (set (set (set out 0 refusal) 1 (cond p.stored 1 0)) 2 p.at) 3 p.octets

-- the reading call, in the first four words: its number, "0 if not refused", and the part that is lent back
abbrev pub read_words : List ℕ → Result Part Refusal → List ℕ
read_words out r = part_row out (refusal_in r) (part_in r)
