use mathlib.Core.Path.{◌≡◌}
use mathlib.Core.Bool.{true}
use Prim.Native.Nat.{◌*◌, ◌+◌, ℕ, ◌≤◌}
use Rattle.protocol.specs.Floor.{Floor, Limits, just_started, on_the_lines}
use Rattle.protocol.specs.Events.{Event}
use Rattle.protocol.specs.Form.{passes_form}
use Rattle.protocol.specs.Blank.{BlankBeyond}
use Rattle.protocol.specs.Step.{step}
use Rattle.protocol.proofs.Demand3.{nothing, started_ok}
use Rattle.protocol.proofs.LinesSteps.{started_lines}
use Rattle.protocol.proofs.FormFacts.{facts_bound, facts_of_invariant, facts_step, past, some_history}
use Rattle.protocol.proofs.Sized.{CountsFit, started_sized, step_sized}
use Rattle.protocol.proofs.FormTest.{blank_from, clauses_from, clauses_of, form_of, passes_of, sized_of}

-- The form rule: kept by every event, on any floor that passes; it bounds the records on the lines.
-- "on every floor that passes, reached or not, .. the floor it leaves passes again"
pub form_kept : (M : Limits) (F : Floor) (e : Event) → BlankBeyond M F → passes_form M F ≡ true → BlankBeyond M (step M F e) × (passes_form M (step M F e) ≡ true)
form_kept M F e B h =
    let P = clauses_of M F h in
    let X = form_of M F B P in
    let S' = step_sized M F (past M F X) (some_history M F X) (sized_of M F B P) e in
    let X' = facts_step M F e X in
    (blank_from M (step M F e) S' X', passes_of M (step M F e) (clauses_from M (step M F e) S' X'))

-- "room on every line"
pub form_bound : (M : Limits) (F : Floor) → BlankBeyond M F → passes_form M F ≡ true → on_the_lines F.stations F.lines ≤ M.held * (F.stations + F.stations + F.carts) + F.carts
form_bound M F B h = facts_bound M F (form_of M F B (clauses_of M F h))

-- a floor just started passes
pub form_started : (M : Limits) (n k : ℕ) → CountsFit M n k → BlankBeyond M (just_started n k) × (passes_form M (just_started n k) ≡ true)
form_started M n k fit =
    let S = started_sized M n k fit in
    let X = facts_of_invariant M (just_started n k) nothing (started_ok M n k fit.stations) (started_lines M n k) in
    (blank_from M (just_started n k) S X, passes_of M (just_started n k) (clauses_from M (just_started n k) S X))
