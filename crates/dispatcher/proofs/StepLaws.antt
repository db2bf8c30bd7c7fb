-- A step of the dispatcher is the event's; and which lines are not empty, and which stations have an entry, is known again.
use mathlib.Core.Path.{◌≡◌, refl, sym, ap, ◌∙◌, subst}
use mathlib.Core.Bool.{true, not}
use mathlib.Core.List.{List, []}
use mathlib.Core.Option.{some}
use Prim.Native.Nat.{ℕ, ◌≤◌, ◌<◌}
use native.Mathlib.Omega.{arith}
use lib.ListN.{length}
use Rattle.protocol.specs.Folds.{is_empty}
use Rattle.protocol.specs.Floor.{Limits, limits_of, Floor, Record, behead}
use Rattle.protocol.specs.Events.{Event, wire, radio, Done, accepted, buffer_after}
use Rattle.protocol.specs.Events as events
use Rattle.protocol.specs.Wired.{handle, on_wire}
use Rattle.protocol.specs.Wireless.{hand_over, on_radio}
use Rattle.protocol.specs.Form.{passes_form}
use Rattle.protocol.specs.Blank.{BlankBeyond}
use Rattle.protocol.specs.Refusals.{refusal}
use Rattle.protocol.specs.Step.{accept, step, answer}
use Rattle.protocol.specs.Quiet.{next_event}
use Rattle.protocol.proofs.Tests.{both_differ}
use Rattle.protocol.proofs.Accepted.{MayWire, MayRadio, may_wire, may_radio, unlined}
use Rattle.protocol.proofs.Demand3.{step_size}
use Rattle.protocol.proofs.NextEvent.{next_accepted}
use Rattle.protocol.proofs.QuietCall.{wire_leaves_buffer, radio_any_buffer}
use Rattle.protocol.proofs.Dispatch.{wire_elsewhere, wire_puts_none, radio_elsewhere, radio_puts_none}
use Rattle.reports.specs.declared.Effect.{Effect}
use Rattle.ids.specs.declared.Station.{Station}
use Rattle.ids.specs.declared.CartNumber.{CartNumber}
use Rattle.stations.specs.View.{HasStation}
use Rattle.view.specs.Records.{lines_in}
use Rattle.view.specs.View.{Lent, floor_in}
use Rattle.view.proofs.Lengths.{lengths_right_lem, nothing_beyond}
use Rattle.view.proofs.Standing.{Standing, standing, few_stations}
use Rattle.event_answers.specs.declared.Outcome.{Outcome}
use Rattle.event_answers.specs.declared.Outcome.TheVariants.{Started, Entered, Sent, Buffered, Acknowledged, Deleted, Deregistered, Registered, Received, Moved, Flagged, Grouped, SentToGroup, SentLong, Retired}
use Rattle.std.specs.Prelude.{Ok, Err}
use Rattle.event_answers.specs.Answers.{Answer, report_of, answer_in}
use Rattle.event_answers.specs.Met.{Met, Ready}
use Rattle.event_answers.specs.Delivered.{Delivered}
use Rattle.dispatcher.specs.declared.Step.{Step}
use Rattle.dispatcher.specs.declared.Step.TheVariants.{Wire, Radio}
use Rattle.dispatcher.specs.Busy.{Busy, IsBusy, taken_off, renewed}
use Rattle.dispatcher.specs.Queues.{QueuedIn, queued_with}
use Rattle.dispatcher.specs.Choice.{event_in}
use Rattle.dispatcher.specs.Taken.{records_in, records_put, Due, StepTaken}
use Rattle.dispatcher.specs.Seen.{HasPlaces, busy_after, queued_after}
use Rattle.dispatcher.proofs.BusyLaws.{busy_after_wire, busy_after_radio}
use Rattle.dispatcher.proofs.QueueLaws.{wire_queues, radio_queues, queued_after_lem}

-- HOW MANY RECORDS A STEP PUT ON LINES, by the written answer
effect_reported : (o : Outcome) (f : Effect) → (report_of o f).effect ≡ f
effect_reported (Started n k) f = refl
effect_reported (Entered t c) f = refl
effect_reported (Sent s n) f = refl
effect_reported (Buffered n) f = refl
effect_reported (Acknowledged n) f = refl
effect_reported (Deleted n) f = refl
effect_reported (Deregistered c) f = refl
effect_reported (Registered c) f = refl
effect_reported (Received s n size) f = refl
effect_reported (Moved c to) f = refl
effect_reported (Flagged c b) f = refl
effect_reported (Grouped g members) f = refl
effect_reported (SentToGroup s n) f = refl
effect_reported (SentLong s n) f = refl
effect_reported (Retired c) f = refl

records_told : (a : Answer) (octets : List ℕ) → records_in a ≡ records_put (answer_in a octets)
records_told (Ok a) octets = ap (λ (g : Effect). g.records) (sym (effect_reported a.outcome a.effect))
records_told (Err r) octets = refl

-- ON A FLOOR THAT PASSES, of which this event is the next one
module _ (L : Lent) (e : Event) (p : passes_form (limits_of L.product) (floor_in L) ≡ true) (due : next_event (limits_of L.product) (floor_in L) ≡ some e) where
  abbrev F : Floor
  F = floor_in L

  abbrev N : Limits
  N = limits_of L.product

  X : Standing L
  X = standing L p

  pub ready : Ready L
  ready = record { lengths = lengths_right_lem L X.lengths; passes = λ _. p }

  blank : BlankBeyond N F
  blank = nothing_beyond L X.lengths X.laid

  taken_accepted : refusal N F e ≡ 0
  taken_accepted = (next_accepted N F e p due).0

  begun : F.started ≡ true
  begun = X.facts.started

-- A WIRE STEP
module _ (L : Lent) (i j : ℕ) (p : passes_form (limits_of L.product) (floor_in L) ≡ true) (due : next_event (limits_of L.product) (floor_in L) ≡ some (wire i j)) where
  abbrev G : Floor
  G = floor_in L

  abbrev K : Limits
  K = limits_of L.product

  may_take : (r : Record) × (l : List Record) × MayWire G i j r l
  unfolding refusal
  may_take = may_wire K G (not (passes_form K G)) i j (taken_accepted L (wire i j) p due)

  pub wire_low : (i < 16) × (j < 16)
  wire_low =
      let few = few_stations L (standing L p) in
      let a = may_take.2.from in
      let b = may_take.2.to in
      (omega arith, omega arith)

  pub wire_on : j < G.stations
  wire_on = may_take.2.to

  abbrev handled : Done
  handled = handle K (unlined G i j) i j may_take.0

  accepts : accept K G (wire i j) ≡ handled
  unfolding accept on_wire
  accepts = rw may_take.2.line refl

  leaves : step K G (wire i j) ≡ handled.floor
  unfolding step
  leaves = rw (taken_accepted L (wire i j) p due) (ap (λ (d : Done). d.floor) accepts)

  reports : answer K G (wire i j) ≡ accepted handled.report
  unfolding answer
  reports = rw (taken_accepted L (wire i j) p due) (ap (λ (d : Done). accepted d.report) accepts)

  -- a line that is not the one
  beheaded : (k h : ℕ) → (k ≡ i → h ≡ j → ⊥) → behead i j G.lines k h ≡ G.lines k h
  beheaded k h n = rw (both_differ i k j h (λ x y. n (sym x) (sym y))) refl

  pub wire_taken : (L' : Lent) (a : Answer) → Met L L' (wire i j) (answer_in a []) → (buffer : List ℕ) → StepTaken L L' (wire i j) buffer buffer (records_in a)
  wire_taken L' a met buffer = record {
    floor = met.floor;
    octets = sym (wire_leaves_buffer K G i j buffer);
    put = records_told a [] ∙ ap records_put met.answers;
  }

  -- what is kept is right again
  module _ (L' : Lent) (left : floor_in L' ≡ step K G (wire i j)) where
    is_handled : floor_in L' ≡ handled.floor
    is_handled = left ∙ leaves

    lines_left : (floor_in L').lines ≡ handled.floor.lines
    lines_left = ap (λ (Y : Floor). Y.lines) is_handled

    pub wire_busy : (records : ℕ) → records ≡ records_put (answer K G (wire i j)) → (b : Busy) → IsBusy G.lines b
        → IsBusy (lines_in L'.lines) (renewed (lines_in L'.lines) (taken_off (lines_in L'.lines) b i j) j records)
    wire_busy records put b right =
        busy_after_wire G.lines (lines_in L'.lines) b right i j wire_low.0 wire_low.1 (ap is_empty may_take.2.line) records
        (λ k h n m. ap is_empty (ap (λ (f : ℕ → ℕ → List Record). f k h) lines_left ∙ wire_elsewhere K G i j may_take.0 k h n ∙ beheaded k h m))
        (λ z k h m. ap is_empty (ap (λ (f : ℕ → ℕ → List Record). f k h) (lines_left ∙ wire_puts_none K G i j may_take.0 (let o = may_take.2.from in omega arith) (sym (put ∙ ap records_put reports) ∙ z)) ∙ beheaded k h m))

    pub wire_queued : (queued : ℕ) → QueuedIn L.stations queued → QueuedIn L'.stations (queued_with L'.stations queued j)
    wire_queued queued Q =
        queued_after_lem L.stations L'.stations queued j Q may_take.2.to
        (ap (λ (Y : Floor). Y.stations) left ∙ (step_size K G (begun L (wire i j) p due) (wire i j)).stations)
        (λ m u n. ap (λ (Y : Floor). Y.queue m u) is_handled ∙ wire_queues K G i j may_take.0 m u n)

-- A RADIO STEP: "the buffer counts as lent anew to each", and takes every text
module _ (L : Lent) (t c : ℕ) (p : passes_form (limits_of L.product) (floor_in L) ≡ true) (due : next_event (limits_of L.product) (floor_in L) ≡ some (radio t c 512)) where
  abbrev H : Floor
  H = floor_in L

  abbrev J : Limits
  J = limits_of L.product

  may_receive : (m : ℕ) × MayRadio J H t c m
  unfolding refusal
  may_receive = may_radio J H (not (passes_form J H)) t c 512 (taken_accepted L (radio t c 512) p due)

  pub radio_low : t < 16
  radio_low = let few = few_stations L (standing L p) in let a = may_receive.1.station in omega arith

  pub radio_on : t < H.stations
  radio_on = may_receive.1.station

  abbrev handed : Done
  handed = hand_over J H may_receive.0 t c

  -- with a buffer of so many octets
  module _ (size : ℕ) (long : 512 ≤ size) where
    any_buffer : refusal J H (radio t c size) ≡ 0
    any_buffer = radio_any_buffer J H t c size (blank L (radio t c 512) p due) p long ∙ taken_accepted L (radio t c 512) p due

    handing : accept J H (radio t c size) ≡ handed
    unfolding accept on_radio
    handing = rw may_receive.1.is_head refl

    same_step : step J H (radio t c size) ≡ step J H (radio t c 512)
    unfolding step accept
    same_step = rw (any_buffer, taken_accepted L (radio t c 512) p due) refl

    same_answer : answer J H (radio t c size) ≡ answer J H (radio t c 512)
    unfolding answer accept
    same_answer = rw (any_buffer, taken_accepted L (radio t c 512) p due) refl

    hands : step J H (radio t c size) ≡ handed.floor
    unfolding step
    hands = rw any_buffer (ap (λ (d : Done). d.floor) handing)

    says_handed : answer J H (radio t c size) ≡ accepted handed.report
    unfolding answer
    says_handed = rw any_buffer (ap (λ (d : Done). accepted d.report) handing)

  module _ (L' : Lent) (a : Answer) (buffer buffer' : List ℕ) (long : 512 ≤ length buffer) (done : Delivered L L' t c a buffer buffer') where
    pub radio_taken : StepTaken L L' (radio t c 512) buffer buffer' (records_in a)
    radio_taken = record {
      floor = done.met.floor ∙ same_step (length buffer) long;
      octets = done.octets ∙ ap (λ (x : events.Answer). buffer_after x buffer) (same_answer (length buffer) long);
      put = records_told a buffer' ∙ ap records_put (done.met.answers ∙ same_answer (length buffer) long);
    }

  -- what is kept is right again
  module _ (L' : Lent) (left : floor_in L' ≡ step J H (radio t c 512)) where
    is_handed : floor_in L' ≡ handed.floor
    is_handed = left ∙ hands 512 (omega arith)

    lines_handed : (floor_in L').lines ≡ handed.floor.lines
    lines_handed = ap (λ (Y : Floor). Y.lines) is_handed

    pub radio_busy : (records : ℕ) → records ≡ records_put (answer J H (radio t c 512)) → (b : Busy) → IsBusy H.lines b
        → IsBusy (lines_in L'.lines) (renewed (lines_in L'.lines) b t records)
    radio_busy records put b right =
        busy_after_radio H.lines (lines_in L'.lines) b right t radio_low records
        (λ k h n. ap is_empty (ap (λ (f : ℕ → ℕ → List Record). f k h) lines_handed ∙ radio_elsewhere J H may_receive.0 t c k h n))
        (λ z k h. ap is_empty (ap (λ (f : ℕ → ℕ → List Record). f k h) (lines_handed ∙ radio_puts_none J H may_receive.0 t c (sym (put ∙ ap records_put (says_handed 512 (omega arith))) ∙ z))))

    pub radio_queued : (queued : ℕ) → QueuedIn L.stations queued → QueuedIn L'.stations (queued_with L'.stations queued t)
    radio_queued queued Q =
        queued_after_lem L.stations L'.stations queued t Q may_receive.1.station
        (ap (λ (Y : Floor). Y.stations) left ∙ (step_size J H (begun L (radio t c 512) p due) (radio t c 512)).stations)
        (λ m u n. ap (λ (Y : Floor). Y.queue m u) is_handed ∙ radio_queues J H may_receive.0 t c m u n)

-- AS THE CODE TAKES IT, by what was chosen: what it asks of the events, and what it comes to
module _ (L : Lent) (n : Step) (d : Due L n) (from to : Station) (is : n ≡ Wire from to) where
  wire_due : next_event (limits_of L.product) (floor_in L) ≡ some (wire from.0 to.0)
  wire_due = d.next ∙ ap (λ (s : Step). some (event_in s)) is

  pub wire_ready : Ready L
  wire_ready = ready L (wire from.0 to.0) d.passes wire_due

  pub wire_comes : (L' : Lent) (a : Answer) → Met L L' (wire from.0 to.0) (answer_in a []) → (buffer : List ℕ) (r : ℕ) → r ≡ records_in a
      → StepTaken L L' (event_in n) buffer buffer r
  wire_comes L' a met buffer r put =
      subst (λ (s : Step). StepTaken L L' (event_in s) buffer buffer r) (sym is)
      (subst (λ (k : ℕ). StepTaken L L' (wire from.0 to.0) buffer buffer k) (sym put)
      (wire_taken L from.0 to.0 d.passes wire_due L' a met buffer))

module _ (L : Lent) (n : Step) (d : Due L n) (station : Station) (cart : CartNumber) (is : n ≡ Radio station cart) where
  radio_due : next_event (limits_of L.product) (floor_in L) ≡ some (radio station.0 cart.0 512)
  radio_due = d.next ∙ ap (λ (s : Step). some (event_in s)) is

  pub radio_ready : Ready L
  radio_ready = ready L (radio station.0 cart.0 512) d.passes radio_due

  pub radio_comes : (L' : Lent) (a : Answer) (buffer buffer' : List ℕ) → Delivered L L' station.0 cart.0 a buffer buffer' → 512 ≤ length buffer
      → (r : ℕ) → r ≡ records_in a → StepTaken L L' (event_in n) buffer buffer' r
  radio_comes L' a buffer buffer' done long r put =
      subst (λ (s : Step). StepTaken L L' (event_in s) buffer buffer' r) (sym is)
      (subst (λ (k : ℕ). StepTaken L L' (radio station.0 cart.0 512) buffer buffer' k) (sym put)
      (radio_taken L station.0 cart.0 d.passes radio_due L' a buffer buffer' long done))

-- WHAT IS KEPT, after the step that was chosen
module _ (L L' : Lent) (buffer buffer' : List ℕ) (records : ℕ) where
  pub busy_again : (n : Step) → Due L n → StepTaken L L' (event_in n) buffer buffer' records → (b : Busy) → IsBusy (floor_in L).lines b
      → IsBusy (lines_in L'.lines) (busy_after (lines_in L'.lines) b n records)
  busy_again (Wire from to) d taken b right = wire_busy L from.0 to.0 d.passes d.next L' taken.floor records taken.put b right
  busy_again (Radio t c) d taken b right = radio_busy L t.0 c.0 d.passes d.next L' taken.floor records taken.put b right

  pub queued_again : (n : Step) → Due L n → StepTaken L L' (event_in n) buffer buffer' records → (queued : ℕ) → QueuedIn L.stations queued
      → QueuedIn L'.stations (queued_after L'.stations queued n)
  queued_again (Wire from to) d taken queued Q = wire_queued L from.0 to.0 d.passes d.next L' taken.floor queued Q
  queued_again (Radio t c) d taken queued Q = radio_queued L t.0 c.0 d.passes d.next L' taken.floor queued Q

-- there are words for the stations of the step, in a table as long as it was
pub places_there : (L : Lent) (S' : List ℕ) (n : Step) → Due L n → length S' ≡ length L.stations → HasPlaces S' n
places_there L S' (Wire from to) d same =
    let X = standing L d.passes in
    let low = wire_low L from.0 to.0 d.passes d.next in
    let on = wire_on L from.0 to.0 d.passes d.next in
    let most = X.sized.counts.stations in
    let size = X.lengths.stations in
    (low.0, low.1, omega arith)
places_there L S' (Radio t c) d same =
    let X = standing L d.passes in
    let on = radio_on L t.0 c.0 d.passes d.next in
    let most = X.sized.counts.stations in
    let size = X.lengths.stations in
    (radio_low L t.0 c.0 d.passes d.next, omega arith)

-- AS THE CODE LOOKS AT IT, by what was chosen
module _ (n : Step) (from to : Station) (is : n ≡ Wire from to) where
  pub wire_places : (S : List ℕ) → HasPlaces S n → (from.0 < 16) × (to.0 < 16) × HasStation S to.0
  wire_places S h = subst (HasPlaces S) is h

  pub wire_seen : (lines : ℕ → ℕ → List Record) (b x y : Busy) (records : ℕ) → x ≡ taken_off lines b from.0 to.0 → y ≡ renewed lines x to.0 records
      → y ≡ busy_after lines b n records
  wire_seen lines b x y records off put =
      put ∙ ap (λ (z : Busy). renewed lines z to.0 records) off ∙ ap (λ (m : Step). busy_after lines b m records) (sym is)

  pub wire_queue_seen : (S : List ℕ) (queued q : ℕ) → q ≡ queued_with S queued to.0 → q ≡ queued_after S queued n
  wire_queue_seen S queued q e = e ∙ ap (queued_after S queued) (sym is)

module _ (n : Step) (station : Station) (cart : CartNumber) (is : n ≡ Radio station cart) where
  pub radio_places : (S : List ℕ) → HasPlaces S n → (station.0 < 16) × HasStation S station.0
  radio_places S h = subst (HasPlaces S) is h

  pub radio_seen : (lines : ℕ → ℕ → List Record) (b y : Busy) (records : ℕ) → y ≡ renewed lines b station.0 records → y ≡ busy_after lines b n records
  radio_seen lines b y records put = put ∙ ap (λ (m : Step). busy_after lines b m records) (sym is)

  pub radio_queue_seen : (S : List ℕ) (queued q : ℕ) → q ≡ queued_with S queued station.0 → q ≡ queued_after S queued n
  radio_queue_seen S queued q e = e ∙ ap (queued_after S queued) (sym is)
