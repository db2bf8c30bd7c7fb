-- A MESSAGE THAT WAS HANDED OVER, copied into the lent buffer: "writes the text at the front of the lent buffer and leaves the rest".
use mathlib.Core.Path.{◌≡◌, sym, ap, ◌∙◌}
use mathlib.Core.List.{List, ◌++◌}
use Prim.Native.Nat.{ℕ, ◌≤◌}
use native.Mathlib.Omega.{arith}
use lib.ListN.{length, take, drop}
use lib.Seq.{take-append-le}
use Rattle.protocol.specs.Events.{radio}
use Rattle.messages.specs.View.{rooms_in}
use Rattle.store.specs.Texts as store
use Rattle.store.proofs.HeldText.{held_length, whole_text}
use Rattle.view.specs.View.{Lent}
use Rattle.reports.specs.Effects.{accepted_in}
use Rattle.std.specs.Prelude.{Ok}
use Rattle.event_answers.specs.Answers.{told_of, text_size}
use Rattle.event_answers.specs.Met.{Met}
use Rattle.event_answers.specs.Delivered.{Delivered}
use Rattle.event_answers.proofs.Delivers.{delivers}
use Rattle.event_radio.specs.declared.Handed.{Handed}
use Rattle.event_radio.specs.Handed.{handed_in, Lies}

module _ (M T O : List ℕ) (h : Handed) (buffer : List ℕ) (lies : Lies M T O (length buffer) h) where
  -- what the copy asks: the text's octets are there, and the buffer has room
  pub copy_asks : store.HasParts M T O h.room × ((rooms_in M).length h.room ≤ length buffer)
  copy_asks = (lies.parts, omega (arith, lies.fits, lies.size))

  abbrev n : ℕ
  n = text_size h.accepted.outcome

  abbrev text : List ℕ
  text = store.text_of T O (rooms_in M) h.room

  counted : length text ≡ n
  counted = held_length M T O h.room lies.parts lies.held ∙ sym lies.size

  whole : take n text ≡ text
  whole = whole_text M T O h.room lies.parts lies.held n lies.size

  -- what was handed over stands at the front of the buffer
  pub hands_text : (L L' : Lent) (t c : ℕ) → Met L L' (radio t c (length buffer)) (handed_in M T O (Ok h)) → (buffer' : List ℕ)
      → buffer' ≡ text ++ drop (length text) buffer → Delivered L L' t c (Ok h.accepted) buffer buffer'
  hands_text L L' t c met buffer' copied =
      delivers L L' t c buffer (handed_in M T O (Ok h)) (Ok h.accepted) buffer' met
      (ap (accepted_in (told_of h.accepted).report) (front ∙ sym whole))
      (sym counted ∙ ap length (sym whole))
      (copied ∙ ap (λ (l : List ℕ). l ++ drop (length l) buffer) (sym whole))
    where
      front : take n buffer' ≡ text
      front =
          ap (λ (l : List ℕ). take n l) copied
          ∙ take-append-le n text (drop (length text) buffer) (omega (arith, counted))
          ∙ whole
