-- RUN THE FLOOR UNTIL IT IS QUIET: "At closing time nobody sends or moves." The dispatcher is the list of its events, so all that is said of runs
-- of events is said of it; then how it is called.
use Rattle.std.specs.Prelude.{◌≡◌, Bool, true, cond, not, List, [], ◌∷◌, ℕ, zero, suc, ◌+◌, ◌*◌, eqb, ltb, length}
use Rattle.std.proofs.Math.Option.{Option, none, some}
use Rattle.protocol.specs.Folds.{first, by_option, is_none, is_empty}
use Rattle.protocol.specs.Floor.{Limits, Floor, most_text, entered}
use Rattle.protocol.specs.Events.{Event, start, enter, send, wire, radio, move, flag, group, send_group, send_long, retire, Answer, buffer_after}
use Rattle.protocol.specs.Form.{passes_form}
use Rattle.protocol.specs.Refusals.{check, refusal}
use Rattle.protocol.specs.Step.{step, floor_after, answers}

-- WHICH STEP IS NEXT

-- of the lines from station i, the first that is not empty: where it goes to
unfoldable pub busy_to : Floor → ℕ → Option ℕ
busy_to F i = first F.stations (λ j. not (is_empty (F.lines i j)))

-- "the first nonempty line by from, then to": where it comes from
unfoldable pub busy_from : Floor → Option ℕ
busy_from F = first F.stations (λ i. not (is_none (busy_to F i)))

-- the wire step of the first nonempty line from station i
abbrev pub wire_from : Floor → ℕ → Option Event
wire_from F i = by_option (busy_to F i) none (λ j. some (wire i j))

module _ (M : Limits) where
  -- "a radio step would be accepted", of cart c at station t, with a buffer that takes every text
  abbrev pub would_receive : Floor → ℕ → ℕ → Bool
  would_receive F t c = eqb (refusal M F (radio t c (most_text M))) 0

  -- "and the lowest cart there"
  unfoldable pub first_cart : Floor → ℕ → Option ℕ
  first_cart F t = first F.carts (would_receive F t)

  -- "the lowest station at which a radio step would be accepted"
  unfoldable pub first_station : Floor → Option ℕ
  first_station F = first F.stations (λ t. not (is_none (first_cart F t)))

  -- the radio step of the lowest cart at station t
  abbrev pub radio_at : Floor → ℕ → Option Event
  radio_at F t = by_option (first_cart F t) none (λ c. some (radio t c (most_text M)))

  -- "A dispatcher takes the first nonempty line ..; with all lines empty, the lowest station ..": its next event; none, and the floor is quiet
  unfoldable pub next_event : Floor → Option Event
  next_event F = by_option (busy_from F) (by_option (first_station F) none (radio_at F)) (wire_from F)

  -- THE DISPATCHER

  -- "It repeats until neither exists": its events, the first k of them if there are more
  unfoldable pub dispatched : ℕ → Floor → List Event
  dispatched zero F = []
  dispatched (suc k) F = elim (next_event F) [ none ↦ [] | some e ↦ e ∷ dispatched k (step M F e) ]

  -- "at most 5,248 = 32 × (16 + 16 + 64 + 64) + 2 × 64"
  abbrev pub most_steps : ℕ
  most_steps = M.held * (M.stations + M.stations + M.carts + M.carts) + 2 * M.carts

  -- all its events: so many may be looked for, since there are no more (`quiet_bound`, `quiet_at_last`)
  unfoldable pub quiet_events : Floor → List Event
  quiet_events F = dispatched most_steps F

  -- "and reports how many steps it took"
  abbrev pub quiet_steps : Floor → ℕ
  quiet_steps F = length (quiet_events F)

  -- the floor that it leaves
  abbrev pub quiet_floor : Floor → Floor
  quiet_floor F = floor_after M F (quiet_events F)

-- "The library lends the dispatcher a text buffer .., written as radio steps write it": what one step after the other leaves in it, by their
-- answers, of which only a radio step's has a text
abbrev pub buffers_after : List Answer → List ℕ → List ℕ
buffers_after [] buffer = buffer
buffers_after (a ∷ l) buffer = buffers_after l (buffer_after a buffer)

-- THE CALL

-- a refusal's number, or "how many steps it took"
pub data QuietAnswer : Type 0 where
  turned_away : (number : ℕ) → QuietAnswer
  quiet_after : (steps : ℕ) → QuietAnswer

-- what a call answers, and the floor and the buffer that it leaves
pub record QuietCall : Type 0 where
  pub answer : QuietAnswer
  pub floor : Floor
  pub buffer : List ℕ

module _ (M : Limits) where
  -- "Checks: 21 if that buffer is shorter than 32, after 5, before the first step", and with long texts "21 below 512": by the buffer's length and
  -- the longest text, whatever is held; 0 if it runs
  unfoldable pub quiet_refusal : Floor → ℕ → ℕ
  quiet_refusal F size = check 5 (not (passes_form M F)) (check 21 (ltb size (most_text M)) 0)

  -- the lent buffer after the dispatcher's steps
  abbrev pub quiet_buffer : Floor → List ℕ → List ℕ
  quiet_buffer F buffer = buffers_after (answers M F (quiet_events M F)) buffer

  -- the call, handed a floor and a lent buffer: "A refusal gives its number alone and changes no floor", and "no octet of a lent text buffer"
  unfoldable pub quiet_call : Floor → List ℕ → QuietCall
  quiet_call F buffer =
      cond (eqb (quiet_refusal F (length buffer)) 0)
      (record { answer = quiet_after (quiet_steps M F); floor = quiet_floor M F; buffer = quiet_buffer F buffer })
      (record { answer = turned_away (quiet_refusal F (length buffer)); floor = F; buffer = buffer })

-- WHAT THE THEOREMS SPEAK OF

-- "Its steps are wire and radio events"
abbrev pub IsWork : Event → Type 0
IsWork (start n k) = ⊥
IsWork (enter t c) = ⊥
IsWork (send s set text) = ⊥
IsWork (wire i j) = Unit {0}
IsWork (radio t c buffer) = Unit {0}
IsWork (move c to) = ⊥
IsWork (flag c b) = ⊥
IsWork (group g set) = ⊥
IsWork (send_group s g text) = ⊥
IsWork (send_long s set text) = ⊥
IsWork (retire c) = ⊥

-- each event of a list is one, and is accepted on the floor that those before it leave
abbrev pub Works : Limits → Floor → List Event → Type 0
Works M F [] = Unit {0}
Works M F (e ∷ es) = (refusal M F e ≡ 0) × (IsWork e × Works M (step M F e) es)

-- "no entered cart is unsteady"
abbrev pub AllSteady : Floor → Type 0
AllSteady F = (c : ℕ) → entered (F.place c) ≡ true → F.steady c ≡ true
