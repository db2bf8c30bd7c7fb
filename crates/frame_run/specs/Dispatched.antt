-- WHAT A FRAME'S EVENT ANSWERED, with the text of a radio step where it lies: in its room's part of the texts (T), or in the store (O), as the messages (M)
-- say.
use Rattle.std.specs.Prelude.{◌≡◌, List, ℕ, ◌<◌, ◌≤◌, take, Result, Ok, Err}
use Prim.{Unit}
use Rattle.protocol.specs.Events.{refused}
use Rattle.protocol.specs.Events as events
use Rattle.refusals.specs.declared.Refusal.{Refusal}
use Rattle.refusals.specs.Numbers.{number_of}
use Rattle.messages.specs.View.{rooms_in}
use Rattle.messages.specs.Texts.{HasText}
use Rattle.store.specs.Texts.{HasParts, text_of}
use Rattle.store.specs.Layout.{long}
use Rattle.reports.specs.Effects.{accepted_in}
use Rattle.event_answers.specs.Answers.{Answer, report_of, text_size}
use Rattle.event_radio.specs.declared.Handed.{Handed}
use Rattle.frame_run.specs.declared.Done.{Done}
use Rattle.frame_run.specs.declared.Dispatched.{Dispatched}

-- an answer without a text
abbrev pub without_text : Answer → Result Done Refusal
without_text (Ok a) = Ok (record { report = report_of a.outcome a.effect; room = 0; size = 0 })
without_text (Err refusal) = Err refusal

-- a radio step's, with the room of its text
abbrev pub with_text : Result Handed Refusal → Result Done Refusal
with_text (Ok h) = Ok (record { report = report_of h.accepted.outcome h.accepted.effect; room = h.room; size = text_size h.accepted.outcome })
with_text (Err refusal) = Err refusal

-- the written answer
abbrev pub answer_at : (messages texts store : List ℕ) → Result Done Refusal → events.Answer
answer_at M T O (Ok d) = accepted_in d.report (take d.size (text_of T O (rooms_in M) d.room))
answer_at M T O (Err refusal) = refused (number_of refusal)

abbrev pub dispatched_in : (messages texts store : List ℕ) → Dispatched → events.Answer
dispatched_in M T O r = answer_at M T O r.answer

-- of what was done the room is one of 32, and the text no longer than a long one; the room's part of the texts is there; and where it has a text, that is all
-- of the room's, whose message is held
pub record Lies (M T O : List ℕ) (d : Done) : Type 0 where
  pub room : d.room < 32
  pub most : d.size ≤ long
  pub part : HasText T d.room
  pub parts : 0 < d.size → HasParts M T O d.room
  pub held : 0 < d.size → (rooms_in M).waiting d.room ≡ 0 → ⊥
  pub size : 0 < d.size → d.size ≡ (rooms_in M).length d.room

-- if the event was accepted
abbrev pub LiesIn : (messages texts store : List ℕ) → Result Done Refusal → Type 0
LiesIn M T O (Ok d) = Lies M T O d
LiesIn M T O (Err refusal) = Unit {0}

abbrev pub Within : (messages texts store : List ℕ) → Dispatched → Type 0
Within M T O r = LiesIn M T O r.answer
