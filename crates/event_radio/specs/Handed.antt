-- WHAT A RADIO STEP COMES TO: a refusal, or an answer whose text lies in its room's part of the texts (T), or in the store (O), as the messages (M) say.
use Rattle.std.specs.Prelude.{◌≡◌, List, ℕ, ◌≤◌, ◌<◌, Result, Ok, Err}
use Rattle.protocol.specs.Events as events
use Rattle.messages.specs.View.{rooms_in}
use Rattle.store.specs.Texts as store
use Rattle.store.specs.Layout.{long}
use Rattle.refusals.specs.declared.Refusal.{Refusal}
use Rattle.refusals.specs.Numbers.{number_of}
use Rattle.event_answers.specs.Answers.{answer_in, text_size}
use Rattle.event_radio.specs.declared.Handed.{Handed}

-- the written answer, with the text of the room
abbrev pub handed_in : (messages texts store : List ℕ) → Result Handed Refusal → events.Answer
handed_in M T O (Ok h) = answer_in (Ok h.accepted) (store.text_of T O (rooms_in M) h.room)
handed_in M T O (Err r) = events.refused (number_of r)

-- where a message was handed over: the room is one of 32; the text is no longer than a long text, nor than the lent buffer; its row and its text's part
-- are there, it is held, and its text has as many octets as the answer says
pub record Lies (M T O : List ℕ) (buffer : ℕ) (h : Handed) : Type 0 where
  pub room : h.room < 32
  pub most : text_size h.accepted.outcome ≤ long
  pub fits : text_size h.accepted.outcome ≤ buffer
  pub parts : store.HasParts M T O h.room
  pub held : (rooms_in M).waiting h.room ≡ 0 → ⊥
  pub size : text_size h.accepted.outcome ≡ (rooms_in M).length h.room
