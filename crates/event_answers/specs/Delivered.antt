-- WHAT A RADIO CALL LEAVES, its lent text buffer too: for cart c at station t it was handed the lent parts L and a buffer, left L' and buffer', and
-- answered a.
use Rattle.std.specs.Prelude.{◌≡◌, List, ℕ, length}
use Rattle.protocol.specs.Floor.{Product, limits_of}
use Rattle.protocol.specs.Events.{radio, buffer_after}
use Rattle.protocol.specs.Step.{answer}
use Rattle.view.specs.View.{Lent, floor_in}
use Rattle.event_answers.specs.Answers.{Answer, answer_in, octets_in, text_of}
use Rattle.event_answers.specs.Met.{Met, Ready}

pub record Delivered (L L' : Lent) (t c : ℕ) (a : Answer) (buffer buffer' : List ℕ) : Type 0 where
  -- the event was met, and what it answered as text stands at the front of the buffer
  pub met : Met L L' (radio t c (length buffer)) (answer_in a buffer')
  -- it answered as many octets as the written answer's text has
  pub size : octets_in a ≡ length (text_of (answer (limits_of L.product) (floor_in L) (radio t c (length buffer))))
  -- "An accepted radio step writes the text at the front of the lent buffer and leaves the rest"; a refusal "changes no octet of a lent text buffer"
  pub octets : buffer' ≡ buffer_after (answer (limits_of L.product) (floor_in L) (radio t c (length buffer))) buffer

-- the same by the limits of each product that the parts are a floor of
abbrev pub DeliveredByEach : (Product → Lent) → (Product → Lent) → ℕ → ℕ → Answer → List ℕ → List ℕ → Type 0
DeliveredByEach before after t c a buffer buffer' = (P : Product) → Ready (before P) → Delivered (before P) (after P) t c a buffer buffer'
