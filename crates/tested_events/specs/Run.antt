-- A RUN OF CALLS: "Each event is handed the floor, lent parts included, as the last one left it, and nobody else writes it."
use Rattle.std.specs.Prelude.{◌≡◌, List, [], ◌∷◌, ◌++◌, map, false, ℕ, ◌<◌, ◌≤◌}
use Rattle.std.proofs.Math.Option.{none}
use Rattle.protocol.specs.Floor.{Limits, Floor, limits_of, is_held}
use Rattle.protocol.specs.Events.{Event, Answer}
use Rattle.protocol.specs.Groups.{as_sent}
use Rattle.protocol.specs.Step.{step, floor_after, answers}
use Rattle.protocol.specs.TwoLists.{Lists, both_empty, lists_step, lists_after, owes, TwoListRule}
use Rattle.protocol.specs.Quiet.{AllSteady, most_steps, next_event, quiet_events}
use Rattle.view.specs.View.{Lent, floor_in}
use Rattle.event_answers.specs.Met.{Met}

-- a call: the event that it was made for, what it answered, and the lent parts that it left
pub record Call : Type 0 where
  pub event : Event
  pub answered : Answer
  pub left : Lent

-- every call met its event, the first of them handed L
unfoldable pub Calls : Lent → List Call → Type 0
Calls L [] = Unit {0}
Calls L (k ∷ ks) = Met L k.left k.event k.answered × Calls k.left ks

-- the lent parts after all of them
unfoldable pub left_by : Lent → List Call → Lent
left_by L [] = L
left_by L (k ∷ ks) = left_by k.left ks

-- the two lists of demand 3, from the events and from what the calls answered. "The sent list counts group sends by their members at sending": a group
-- send does not say them, so they are those that the group has by the written steps over the same events, from floor F on (`as_sent`), and not by
-- the controller's own record. They "begin at its latest entry" (`lists_step`)
unfoldable pub lists_of : Limits → Floor → Lists → List Call → Lists
lists_of M F l [] = l
lists_of M F l (k ∷ ks) = lists_of M (step M F k.event) (lists_step (as_sent F k.event) k.answered l) ks

abbrev pub events_of : List Call → List Event
events_of ks = map (λ (k : Call). k.event) ks

-- THE CLAIM of a run of calls on a floor of so many carts, from L on, that an accepted start left: answers and floor are those of the written
-- run over the same events, and the two-list rule holds of what was sent and received in these calls
pub record RunIs (L : Lent) (carts : ℕ) (ks : List Call) : Type 0 where
  pub floor : floor_in (left_by L ks) ≡ floor_after (limits_of L.product) (floor_in L) (events_of ks)
  pub answered : map (λ (k : Call). k.answered) ks ≡ answers (limits_of L.product) (floor_in L) (events_of ks)
  pub two_lists : (s c : ℕ) → c < carts
      → TwoListRule (owes (limits_of L.product) (floor_after (limits_of L.product) (floor_in L) (events_of ks)) s c)
      ((lists_of (limits_of L.product) (floor_in L) both_empty ks).sent s c) ((lists_of (limits_of L.product) (floor_in L) both_empty ks).received s c)

-- the events of a run, and those of the dispatcher behind them
abbrev pub with_quiet : Limits → Floor → List Event → List Event
with_quiet M F es = es ++ quiet_events M (floor_after M F es)

-- CLOSING TIME: behind the events of a run from floor F, of so many carts, the floor was run until it is quiet; that took so many steps and left floor Q. All its
-- steps are events too, so the two lists are those of both
pub record EndsQuiet (M : Limits) (F : Floor) (carts : ℕ) (es : List Event) (Q : Floor) (steps : ℕ) : Type 0 where
  pub floor : Q ≡ floor_after M F (with_quiet M F es)
  -- "That count is at most 5,248"
  pub bound : steps ≤ most_steps M
  -- "It repeats until neither exists"
  pub over : next_event M Q ≡ none
  -- "if no entered cart is unsteady, no message is held afterwards"
  pub none_held : AllSteady (floor_after M F es) → (m : ℕ) → m < M.held → is_held Q m ≡ false
  -- "and, for every station and cart, the sent and received lists are equal"
  pub equal : AllSteady (floor_after M F es) → (s c : ℕ) → c < carts
      → (lists_after M F both_empty (with_quiet M F es)).sent s c ≡ (lists_after M F both_empty (with_quiet M F es)).received s c
