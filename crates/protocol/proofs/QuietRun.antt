-- The dispatcher: its events are accepted wire and radio steps, so the potential bounds how many there are.
use mathlib.Core.Path.{refl, sym, ◌∙◌, ◌≡◌}
use mathlib.Core.Bool.{true}
use mathlib.Core.Option.{none, some}
use mathlib.Core.List.{[], ◌∷◌}
use Prim.Native.Nat.{◌+◌, ◌<◌, suc, zero, ℕ, ◌≤◌}
use native.Mathlib.Omega.{arith}
use lib.ListN.{length}
use Rattle.protocol.specs.Floor.{Floor, Limits}
use Rattle.protocol.specs.Events.{Answer, Event, accepted, refused}
use Rattle.protocol.specs.Form.{passes_form}
use Rattle.protocol.specs.Blank.{BlankBeyond}
use Rattle.protocol.specs.Refusals.{refusal}
use Rattle.protocol.specs.Step.{accept, answer, floor_after, step}
use Rattle.protocol.specs.Quiet.{IsWork, Works, dispatched, most_steps, next_event}
use Rattle.protocol.specs.Potential.{potential}
use Rattle.protocol.proofs.Tests.{by_option_lem}
use Rattle.protocol.proofs.Accepted.{by_step}
use Rattle.protocol.proofs.Invariant.{History, Invariant}
use Rattle.protocol.proofs.LineFacts.{LineFacts}
use Rattle.protocol.proofs.RecordBound.{multicasts_le}
use Rattle.protocol.proofs.FormFacts.{past, some_history}
use Rattle.protocol.proofs.FormTest.{clauses_of, form_of, sized_of}
use Rattle.protocol.proofs.FormRule.{form_kept}
use Rattle.protocol.proofs.NextEvent.{next_accepted}
use Rattle.protocol.proofs.PotentialSteps.{potential_bound, radio_falls, wire_falls}

-- EACH ACCEPTED WIRE OR RADIO STEP LOWERS THE POTENTIAL

abbrev pub Falls : Limits → Floor → Event → Floor → Answer → Type 0
Falls M F e X (refused r) = Unit {0}
Falls M F e X (accepted l) = IsWork e → potential M X < potential M F

pub step_falls : (M : Limits) (F : Floor) (G : History) → Invariant M F G → LineFacts M F → (e : Event) → Falls M F e (step M F e) (answer M F e)
step_falls M F G I X =
    by_step M F (Falls M F) I.started (λ e r. tt)
    (λ t c may w. absurd w)
    (λ s set text m may w. absurd w)
    (λ i j r l may w. wire_falls M F G I X i j r l may)
    (λ t c buffer m may w. radio_falls M F G I X m t c may)
    (λ c to may w. absurd w)
    (λ c b may w. absurd w)
    (λ c may w. absurd w)
    (λ g set may w. absurd w)
    (λ s g text m may w. absurd w)
    (λ s set text m may w. absurd w)

-- on every floor that passes the form rule
pub accepted_falls : (M : Limits) (F : Floor) (e : Event) → BlankBeyond M F → passes_form M F ≡ true → refusal M F e ≡ 0 → IsWork e
    → potential M (step M F e) < potential M F
unfolding answer
accepted_falls M F e B h z w =
    let P = clauses_of M F h in
    let X = form_of M F B P in
    let f = step_falls M F (past M F X) (some_history M F X) X.on_lines_lem e in
    let f' : Falls M F e (step M F e) (accepted (accept M F e).report) = rw z at f in
    f' w

pub potential_most : (M : Limits) (F : Floor) → BlankBeyond M F → passes_form M F ≡ true → potential M F ≤ most_steps M
potential_most M F B h =
    let P = clauses_of M F h in
    let X = form_of M F B P in
    let S = sized_of M F B P in
    potential_bound M F (multicasts_le M F X.on_lines_lem X.run X.handoffs_right) S.counts.stations S.counts.carts

-- so a step that it takes lowers the potential
next_falls : (M : Limits) (F : Floor) (e : Event) → BlankBeyond M F → passes_form M F ≡ true → next_event M F ≡ some e
    → potential M (step M F e) < potential M F
next_falls M F e B h n = let a = next_accepted M F e h n in accepted_falls M F e B h a.0 a.1

-- THE RUN

pub dispatched_none : (M : Limits) (k : ℕ) (F : Floor) → next_event M F ≡ none → dispatched M k F ≡ []
unfolding dispatched
dispatched_none M zero F e = refl
dispatched_none M (suc k) F e = rw (e, dispatched)

pub dispatched_some : (M : Limits) (k : ℕ) (F : Floor) (e : Event) → next_event M F ≡ some e → dispatched M (suc k) F ≡ e ∷ dispatched M k (step M F e)
unfolding dispatched
dispatched_some M k F e n = rw (n, dispatched)

-- its steps and what is left to do are together no more than there was
pub steps_bounded : (M : Limits) (k : ℕ) (F : Floor) → BlankBeyond M F → passes_form M F ≡ true
    → length (dispatched M k F) + potential M (floor_after M F (dispatched M k F)) ≤ potential M F
unfolding floor_after dispatched
steps_bounded M zero F B h = omega arith
steps_bounded M (suc k) F B h =
    by_option_lem (next_event M F)
    (λ n. rw (dispatched_none M (suc k) F n) (omega arith))
    (λ e n. let g = form_kept M F e B h in
    let a = steps_bounded M k (step M F e) g.0 g.1 in
    let b = next_falls M F e B h n in
    rw (dispatched_some M k F e n) (omega arith))

-- each of them is accepted, and a wire or radio event
pub all_work : (M : Limits) (k : ℕ) (F : Floor) → BlankBeyond M F → passes_form M F ≡ true → Works M F (dispatched M k F)
unfolding dispatched
all_work M zero F B h = tt
all_work M (suc k) F B h =
    by_option_lem (next_event M F)
    (λ n. rw (dispatched_none M (suc k) F n) tt)
    (λ e n. let g = form_kept M F e B h in
    let a = next_accepted M F e h n in
    rw (dispatched_some M k F e n) (a.0, (a.1, all_work M k (step M F e) g.0 g.1)))

-- with as many steps as the potential it comes to the end
pub stops : (M : Limits) (k : ℕ) (F : Floor) → BlankBeyond M F → passes_form M F ≡ true → potential M F ≤ k
    → next_event M (floor_after M F (dispatched M k F)) ≡ none
unfolding floor_after dispatched
stops M zero F B h p = by_option_lem (next_event M F) (λ n. n) (λ e n. absurd (let b = next_falls M F e B h n in omega arith))
stops M (suc k) F B h p =
    by_option_lem (next_event M F)
    (λ n. rw (dispatched_none M (suc k) F n) n)
    (λ e n. let g = form_kept M F e B h in
    let b = next_falls M F e B h n in
    rw (dispatched_some M k F e n) (stops M k (step M F e) g.0 g.1 (omega arith)))

-- and with more it takes no more
pub no_more : (M : Limits) (k j : ℕ) (F : Floor) → BlankBeyond M F → passes_form M F ≡ true → potential M F ≤ k → k ≤ j
    → dispatched M j F ≡ dispatched M k F
unfolding dispatched
no_more M zero zero F B h p l = refl
no_more M zero (suc j) F B h p l =
    by_option_lem (next_event M F) (λ n. dispatched_none M (suc j) F n) (λ e n. absurd (let b = next_falls M F e B h n in omega arith))
no_more M (suc k) zero F B h p l = absurd (omega arith)
no_more M (suc k) (suc j) F B h p l =
    by_option_lem (next_event M F)
    (λ n. dispatched_none M (suc j) F n ∙ sym (dispatched_none M (suc k) F n))
    (λ e n. let g = form_kept M F e B h in
    let b = next_falls M F e B h n in
    dispatched_some M j F e n ∙ rw (no_more M k j (step M F e) g.0 g.1 (omega arith) (omega arith)) (sym (dispatched_some M k F e n)))
