-- A STEP OF THE DISPATCHER: it was handed the lent parts L and a buffer, took event e, left L' and buffer', and put so many records on lines.
use Rattle.std.specs.Prelude.{◌≡◌, true, List, ℕ, Ok, Err}
use Rattle.std.proofs.Math.Option.{some}
use Rattle.protocol.specs.Floor.{Product, limits_of}
use Rattle.protocol.specs.Events.{Event, refused, accepted, buffer_after}
use Rattle.protocol.specs.Events as events
use Rattle.protocol.specs.Form.{passes_form}
use Rattle.protocol.specs.Step.{step, answer}
use Rattle.protocol.specs.Quiet.{next_event}
use Rattle.view.specs.View.{Lent, floor_in}
use Rattle.event_answers.specs.Answers.{Answer}
use Rattle.dispatcher.specs.declared.Step.{Step}
use Rattle.dispatcher.specs.Choice.{event_in}

-- how many records a step put on lines, by its answer; and by the written one
abbrev pub records_in : Answer → ℕ
records_in (Ok a) = a.effect.records
records_in (Err r) = 0

abbrev pub records_put : events.Answer → ℕ
records_put (refused r) = 0
records_put (accepted l) = l.w

-- the chosen step is the next event of the floor
pub record Due (L : Lent) (s : Step) : Type 0 where
  pub passes : passes_form (limits_of L.product) (floor_in L) ≡ true
  pub next : next_event (limits_of L.product) (floor_in L) ≡ some (event_in s)

abbrev pub DueBySome : (Product → Lent) → Step → Type 0
DueBySome lent s = (P : Product) × Due (lent P) s

pub record StepTaken (L L' : Lent) (e : Event) (buffer buffer' : List ℕ) (records : ℕ) : Type 0 where
  pub floor : floor_in L' ≡ step (limits_of L.product) (floor_in L) e
  pub octets : buffer' ≡ buffer_after (answer (limits_of L.product) (floor_in L) e) buffer
  pub put : records ≡ records_put (answer (limits_of L.product) (floor_in L) e)

-- by the limits of each product of whose floor it is the next event
abbrev pub TakenByEach : (Product → Lent) → (Product → Lent) → Step → List ℕ → List ℕ → ℕ → Type 0
TakenByEach before after s buffer buffer' records =
    (P : Product) → Due (before P) s → StepTaken (before P) (after P) (event_in s) buffer buffer' records
