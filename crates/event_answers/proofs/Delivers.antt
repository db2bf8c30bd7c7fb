-- A RADIO CALL AND ITS BUFFER: from an answer that is met.
use mathlib.Core.Path.{◌≡◌, refl, sym, ap, ◌∙◌, subst}
use mathlib.Core.List.{List}
use Prim.Native.Nat.{ℕ}
use lib.ListN.{length}
use Rattle.protocol.specs.Events.{radio, refused, buffer_after}
use Rattle.protocol.specs.Events as events
use Rattle.view.specs.View.{Lent}
use Rattle.std.specs.Prelude.{Err}
use Rattle.refusals.specs.declared.Refusal.{Refusal}
use Rattle.refusals.specs.Numbers.{number_of}
use Rattle.event_answers.specs.Answers.{Answer, answer_in, octets_in, text_of}
use Rattle.event_answers.specs.Met.{Met}
use Rattle.event_answers.specs.Delivered.{Delivered}

module _ (L L' : Lent) (t c : ℕ) (buffer : List ℕ) where
  -- what was met, with its text at the front of the buffer
  pub delivers : (x : events.Answer) (a : Answer) (buffer' : List ℕ) → Met L L' (radio t c (length buffer)) x
      → answer_in a buffer' ≡ x → octets_in a ≡ length (text_of x) → buffer' ≡ buffer_after x buffer → Delivered L L' t c a buffer buffer'
  delivers x a buffer' met same size octets =
      record {
        met = subst (λ (y : events.Answer). Met L L' (radio t c (length buffer)) y) (sym same) met;
        size = size ∙ ap (λ (y : events.Answer). length (text_of y)) met.answers;
        octets = octets ∙ ap (λ (y : events.Answer). buffer_after y buffer) met.answers;
      }

  -- a refusal
  pub delivers_refused : (r : Refusal) → Met L L' (radio t c (length buffer)) (refused (number_of r)) → Delivered L L' t c (Err r) buffer buffer
  delivers_refused r met = delivers (refused (number_of r)) (Err r) buffer met refl refl refl
