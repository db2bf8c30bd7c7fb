-- THE RUN, step by step: what remains to be done.
use mathlib.Core.Path.{◌≡◌, refl, sym, ap, ◌∙◌, subst}
use mathlib.Core.Bool.{true}
use mathlib.Core.List.{List, [], ◌∷◌}
use mathlib.Core.Option.{none, some}
use Prim.{tt}
use Prim.Native.Nat.{ℕ, zero, suc, ◌+◌, ◌*◌, ◌≤◌, ◌<◌}
use native.Mathlib.Nat.{mul-le-mul_left}
use native.Mathlib.Omega.{arith}
use lib.ListN.{length}
use Rattle.protocol.specs.Floor.{Product, Limits, limits_of, Floor}
use Rattle.protocol.specs.Events.{Event, buffer_after}
use Rattle.protocol.specs.Form.{passes_form}
use Rattle.protocol.specs.Blank.{BlankBeyond}
use Rattle.protocol.specs.Step.{step, answer, floor_after, answers}
use Rattle.protocol.specs.Quiet.{next_event, dispatched, most_steps, quiet_events, quiet_steps, quiet_floor, quiet_buffer, buffers_after}
use Rattle.protocol.proofs.FormRule.{form_kept}
use Rattle.protocol.proofs.NextEvent.{next_accepted}
use Rattle.protocol.proofs.QuietRun.{dispatched_none, dispatched_some}
use Rattle.protocol.proofs.QuietCall.{run_leaves_length}
use Rattle.protocol.proofs.Theorems.{quiet_at_last}
use Rattle.stations.specs.View.{HasHead, head_in}
use Rattle.lines.specs.Form.{form}
use Rattle.view.specs.Records.{lines_in}
use Rattle.view.specs.View.{lent, floor_in}
use Rattle.view.proofs.Lengths.{Lengths, nothing_beyond}
use Rattle.view.proofs.Standing.{standing, few_stations}
use Rattle.std.specs.Prelude.{None, Some}
use Rattle.std.specs.Prelude as rust
use Rattle.dispatcher.specs.declared.Step.{Step}
use Rattle.dispatcher.specs.Busy.{Busy, IsBusy}
use Rattle.dispatcher.specs.Queues.{QueuedIn}
use Rattle.dispatcher.specs.Choice.{event_in, next_in, Watched, OfEach}
use Rattle.dispatcher.specs.Taken.{Due, StepTaken, TakenByEach}
use Rattle.dispatcher.specs.Seen.{HasPlaces, busy_after, queued_after}
use Rattle.dispatcher.specs.Quieted.{QuietedByEach}
use Rattle.dispatcher.proofs.StepLaws.{busy_again, queued_again, places_there}

-- no product takes more steps than the floor of 01 may
pub few_steps : (P : Product) → most_steps (limits_of P) ≤ 5248
few_steps P =
    let a = P.stations_fit in
    let b = P.carts_fit in
    let d = P.held_fit in
    let most : P.stations + P.stations + P.carts + P.carts ≤ 160 = omega arith in
    let x = mul-le-mul_left P.held most in
    let y : P.held * 160 ≤ 5120 = omega arith in
    omega arith

module _ (M : Limits) where
  -- from floor F₀ and buffer₀ so many steps led to F and buffer: the steps that remain lead to the written end
  pub record Going (F₀ F : Floor) (buffer₀ buffer : List ℕ) (steps : ℕ) : Type 0 where
    pub left : ℕ
    pub total : steps + left ≡ most_steps M
    pub count : steps + length (dispatched M left F) ≡ quiet_steps M F₀
    pub floor : floor_after M F (dispatched M left F) ≡ quiet_floor M F₀
    pub octets : buffers_after (answers M F (dispatched M left F)) buffer ≡ quiet_buffer M F₀ buffer₀

  pub going_first : (F : Floor) (buffer : List ℕ) → Going F F buffer buffer 0
  unfolding quiet_events
  going_first F buffer = record { left = most_steps M; total = omega arith; count = omega arith; floor = refl; octets = refl }

  -- nothing is next, and this is the end
  pub going_last : (F₀ F : Floor) (buffer₀ buffer : List ℕ) (steps : ℕ) → Going F₀ F buffer₀ buffer steps → next_event M F ≡ none
      → (steps ≡ quiet_steps M F₀) × ((F ≡ quiet_floor M F₀) × (buffer ≡ quiet_buffer M F₀ buffer₀))
  unfolding floor_after answers
  going_last F₀ F buffer₀ buffer steps g n =
      let none_left = dispatched_none M g.left F n in
      let count : steps + length (dispatched M g.left F) ≡ quiet_steps M F₀ = g.count in (
        (let z : length (dispatched M g.left F) ≡ 0 = ap length none_left in omega arith),
        (
          ap (floor_after M F) (sym none_left) ∙ g.floor,
          ap (λ (l : List Event). buffers_after (answers M F l) buffer) (sym none_left) ∙ g.octets,
        ),
      )

  -- while one is, some step is left
  pub going_room : (F₀ F : Floor) (buffer₀ buffer : List ℕ) (steps : ℕ) (e : Event) → BlankBeyond M F₀ → passes_form M F₀ ≡ true
      → Going F₀ F buffer₀ buffer steps → next_event M F ≡ some e → steps < most_steps M
  unfolding floor_after dispatched
  going_room F₀ F buffer₀ buffer steps e B h g n = by_left g.left g.total g.floor
    where
      by_left : (k : ℕ) → steps + k ≡ most_steps M → floor_after M F (dispatched M k F) ≡ quiet_floor M F₀ → steps < most_steps M
      by_left zero t f =
          let last : next_event M F ≡ none = ap (next_event M) f ∙ quiet_at_last M F₀ B h in
          absurd (let y : ◌≡◌ {A = ℕ} 0 1 = cc in omega arith)
      by_left (suc k) t f = omega arith

  pub going_on : (F₀ F F' : Floor) (buffer₀ buffer buffer' : List ℕ) (steps : ℕ) (e : Event) → BlankBeyond M F₀ → passes_form M F₀ ≡ true
      → Going F₀ F buffer₀ buffer steps → next_event M F ≡ some e → F' ≡ step M F e → buffer' ≡ buffer_after (answer M F e) buffer
      → Going F₀ F' buffer₀ buffer' (steps + 1)
  unfolding floor_after answers
  going_on F₀ F F' buffer₀ buffer buffer' steps e B h g n f o =
      by_left g.left g.total g.count g.floor g.octets
    where
      by_left : (k : ℕ) → steps + k ≡ most_steps M → steps + length (dispatched M k F) ≡ quiet_steps M F₀ → floor_after M F (dispatched M k F) ≡ quiet_floor M F₀
          → buffers_after (answers M F (dispatched M k F)) buffer ≡ quiet_buffer M F₀ buffer₀ → Going F₀ F' buffer₀ buffer' (steps + 1)
      by_left zero t count floor octets = absurd (let z = going_room F₀ F buffer₀ buffer steps e B h g n in omega arith)
      by_left (suc k) t count floor octets =
          let one = dispatched_some M k F e n in
          let count₁ : steps + suc (length (dispatched M k (step M F e))) ≡ quiet_steps M F₀ = rw one at count in
          let floor₁ : floor_after M (step M F e) (dispatched M k (step M F e)) ≡ quiet_floor M F₀ = rw one at floor in
          let octets₁ : buffers_after (answers M (step M F e) (dispatched M k (step M F e))) (buffer_after (answer M F e) buffer) ≡ quiet_buffer M F₀ buffer₀ = rw one at octets in
          rw (f, o) (record { left = k; total = omega arith; count = omega arith; floor = floor₁; octets = octets₁ })

-- THE LOOP, over the lent parts: S₀, C₀, M₀, W₀ are the words at the start, and T and O the texts and the store, which no step writes
abbrev pub Passes : Product → List ℕ → List ℕ → List ℕ → List ℕ → List ℕ → List ℕ → Type 0
Passes P S C M W T O = passes_form (limits_of P) (floor_in (lent P S C M W T O)) ≡ true

pub record Running (S₀ C₀ M₀ W₀ S C M W T O : List ℕ) (buffer₀ buffer : List ℕ) (steps : ℕ) (b : Busy) (queued : ℕ) (n : rust.Option Step) : Type 0 where
  pub passes : (P : Product) → Passes P S₀ C₀ M₀ W₀ T O → Passes P S C M W T O
  pub going : (P : Product) → Passes P S₀ C₀ M₀ W₀ T O
      → Going (limits_of P) (floor_in (lent P S₀ C₀ M₀ W₀ T O)) (floor_in (lent P S C M W T O)) buffer₀ buffer steps
  pub next : (P : Product) → Passes P S₀ C₀ M₀ W₀ T O → next_event (limits_of P) (floor_in (lent P S C M W T O)) ≡ next_in n
  pub busy : IsBusy (lines_in W) b
  pub queues : QueuedIn S queued
  pub kept : length buffer ≡ length buffer₀

-- the lines of a floor that passes are whole
pub chains_of : (P : Product) (S C M W T O : List ℕ) → Passes P S C M W T O → form W ≡ true
chains_of P S C M W T O p = (standing (lent P S C M W T O) p).laid.chains

module _ (S₀ C₀ M₀ W₀ T O buffer₀ : List ℕ) where
  -- what is asked of the table for the first look at the queues
  pub first_queues : (P : Product) → Passes P S₀ C₀ M₀ W₀ T O → HasHead S₀ × ((head_in S₀).stations ≤ 16) × (116 + (head_in S₀).stations * 116 ≤ length S₀)
  first_queues P p =
      let X = standing (lent P S₀ C₀ M₀ W₀ T O) p in
      let size = X.lengths.stations in
      let most = X.sized.counts.stations in
      (omega arith, few_stations (lent P S₀ C₀ M₀ W₀ T O) X, omega arith)

  pub running_first : (b : Busy) (queued : ℕ) (n : rust.Option Step) → IsBusy (lines_in W₀) b → QueuedIn S₀ queued
      → OfEach S₀ C₀ M₀ (λ N F. IsBusy F.lines b → next_event N F ≡ next_in n)
      → Running S₀ C₀ M₀ W₀ S₀ C₀ M₀ W₀ T O buffer₀ buffer₀ 0 b queued n
  running_first b queued n right Q next = record {
    passes = λ P p. p;
    going = λ P p. going_first (limits_of P) (floor_in (lent P S₀ C₀ M₀ W₀ T O)) buffer₀;
    next = λ P p. next P W₀ T O p right;
    busy = right;
    queues = Q;
    kept = refl;
  }

  module _ (S C M W buffer : List ℕ) (steps : ℕ) (b : Busy) (queued : ℕ) (n : rust.Option Step) (R : Running S₀ C₀ M₀ W₀ S C M W T O buffer₀ buffer steps b queued n) where
    module _ (P : Product) (p : Passes P S₀ C₀ M₀ W₀ T O) where
      lengths_first : Lengths (lent P S₀ C₀ M₀ W₀ T O)
      lengths_first = (standing (lent P S₀ C₀ M₀ W₀ T O) p).lengths

      lengths_now : Lengths (lent P S C M W T O)
      lengths_now = (standing (lent P S C M W T O) (R.passes P p)).lengths

      pub same_stations : length S ≡ length S₀
      same_stations = lengths_now.stations ∙ sym lengths_first.stations

      pub same_carts : length C ≡ length C₀
      same_carts = lengths_now.carts ∙ sym lengths_first.carts

      pub same_messages : length M ≡ length M₀
      same_messages = lengths_now.messages ∙ sym lengths_first.messages

      pub same_lines : length W ≡ length W₀
      same_lines = lengths_now.lines ∙ sym lengths_first.lines

      blank_first : BlankBeyond (limits_of P) (floor_in (lent P S₀ C₀ M₀ W₀ T O))
      blank_first = nothing_beyond (lent P S₀ C₀ M₀ W₀ T O) lengths_first (standing (lent P S₀ C₀ M₀ W₀ T O) p).laid

      blank_now : BlankBeyond (limits_of P) (floor_in (lent P S C M W T O))
      blank_now = nothing_beyond (lent P S C M W T O) lengths_now (standing (lent P S C M W T O) (R.passes P p)).laid

    -- A TURN: step s is next
    module _ (s : Step) (is : n ≡ Some s) where
      module _ (P : Product) (p : Passes P S₀ C₀ M₀ W₀ T O) where
        pub still_due : Due (lent P S C M W T O) s
        still_due = record { passes = R.passes P p; next = R.next P p ∙ ap next_in is }

        -- one step at least was left
        pub turn_left : steps < 5248
        turn_left =
            let few = few_steps P in
            let room = going_room (limits_of P) (floor_in (lent P S₀ C₀ M₀ W₀ T O)) (floor_in (lent P S C M W T O)) buffer₀ buffer steps (event_in s) (blank_first P p) p (R.going P p) still_due.next in
            omega arith

      module _ (S' C' M' W' buffer' : List ℕ) (records : ℕ)
          (taken : TakenByEach (λ P. lent P S C M W T O) (λ P. lent P S' C' M' W' T O) s buffer buffer' records) where
        module _ (P : Product) (p : Passes P S₀ C₀ M₀ W₀ T O) where
          taken_by_lem : StepTaken (lent P S C M W T O) (lent P S' C' M' W' T O) (event_in s) buffer buffer' records
          taken_by_lem = taken P (still_due P p)

          pub passes_then : Passes P S' C' M' W' T O
          passes_then = subst (λ (Y : Floor). passes_form (limits_of P) Y ≡ true) (sym taken_by_lem.floor) (form_kept (limits_of P) (floor_in (lent P S C M W T O)) (event_in s) (blank_now P p) (R.passes P p)).1

          -- no text is longer than the buffer
          kept_on : 512 ≤ length buffer → length buffer' ≡ length buffer
          unfolding answers
          kept_on long =
              let N = limits_of P in
              let F = floor_in (lent P S C M W T O) in
              let a = next_accepted N F (event_in s) (R.passes P p) (still_due P p).next in
              ap length taken_by_lem.octets ∙ run_leaves_length N F (event_in s ∷ []) buffer (blank_now P p) (R.passes P p) (a.0, (a.1, tt)) long

          goes_on : Going (limits_of P) (floor_in (lent P S₀ C₀ M₀ W₀ T O)) (floor_in (lent P S' C' M' W' T O)) buffer₀ buffer' (steps + 1)
          goes_on = going_on (limits_of P) _ _ _ buffer₀ buffer buffer' steps (event_in s) (blank_first P p) p (R.going P p) (still_due P p).next taken_by_lem.floor taken_by_lem.octets

          -- what is asked for the look at what it changed
          pub look_asks : (form W' ≡ true) × HasPlaces S' s
          look_asks =
              let now_size = (standing (lent P S C M W T O) (R.passes P p)).lengths.stations in
              let then_size = (standing (lent P S' C' M' W' T O) passes_then).lengths.stations in
              (chains_of P S' C' M' W' T O passes_then, places_there (lent P S C M W T O) S' s (still_due P p) (then_size ∙ sym now_size))

        -- what was kept, and was looked at
        module _ (b' : Busy) (queued' : ℕ) (seen : b' ≡ busy_after (lines_in W') b s records) (queue_seen : queued' ≡ queued_after S' queued s) where
          busy_then : (P : Product) → Passes P S₀ C₀ M₀ W₀ T O → IsBusy (lines_in W') b'
          busy_then P p =
              subst (λ (x : Busy). IsBusy (lines_in W') x) (sym seen)
              (busy_again (lent P S C M W T O) (lent P S' C' M' W' T O) buffer buffer' records s (still_due P p) (taken_by_lem P p) b R.busy)

          queues_then : (P : Product) → Passes P S₀ C₀ M₀ W₀ T O → QueuedIn S' queued'
          queues_then P p =
              subst (λ (x : ℕ). QueuedIn S' x) (sym queue_seen)
              (queued_again (lent P S C M W T O) (lent P S' C' M' W' T O) buffer buffer' records s (still_due P p) (taken_by_lem P p) queued R.queues)

          pub watched_then : (P : Product) → Passes P S₀ C₀ M₀ W₀ T O → Watched S' C' M' b' × QueuedIn S' queued'
          watched_then P p =
              (record { floor = record { product = P; lines = W'; texts = T; store = O; passes = passes_then P p }; busy = busy_then P p }, queues_then P p)

          pub running_on : (P : Product) → Passes P S₀ C₀ M₀ W₀ T O → 512 ≤ length buffer₀ → (n' : rust.Option Step)
              → OfEach S' C' M' (λ N F. IsBusy F.lines b' → next_event N F ≡ next_in n')
              → Running S₀ C₀ M₀ W₀ S' C' M' W' T O buffer₀ buffer' (steps + 1) b' queued' n'
          running_on P p long n' next =
              let same = kept_on P p (let k = R.kept in omega arith) in
              record {
                passes = passes_then;
                going = goes_on;
                next = λ Q r. next Q W' T O (passes_then Q r) (busy_then P p);
                busy = busy_then P p;
                queues = queues_then P p;
                kept = same ∙ R.kept;
              }

    -- THE END: none is
    pub running_last : n ≡ None → QuietedByEach (λ P. lent P S₀ C₀ M₀ W₀ T O) (λ P. lent P S C M W T O) buffer₀ buffer steps
    running_last over P p =
        let z = going_last (limits_of P) (floor_in (lent P S₀ C₀ M₀ W₀ T O)) (floor_in (lent P S C M W T O)) buffer₀ buffer steps (R.going P p) (R.next P p ∙ ap next_in over) in
        record { product = refl; count = z.0; floor = z.1.0; octets = z.1.1 }
