-- A CALL MEETS ITS EVENT: when it is refused, and when it is done; and what then follows.
use mathlib.Core.Path.{◌≡◌, refl, sym, ap, ◌∙◌, subst}
use mathlib.Core.Bool.{true, false}
use Prim.Native.Nat.{ℕ, ◌*◌, ◌≤◌}
use native.Mathlib.Omega.{arith}
use lib.Dec.{eqb}
use lib.ListN.{length}
use borrow.Author.Tests.{ne_eqb}
use Rattle.protocol.specs.Floor.{Floor, limits_of}
use Rattle.protocol.specs.Events.{Event, Answer, Report, refused, accepted}
use Rattle.protocol.specs.Form.{passes_form}
use Rattle.protocol.specs.Refusals.{refusal, refusal_if}
use Rattle.protocol.specs.Step.{step, answer, accept}
use Rattle.protocol.proofs.Theorems.{form_closed}
use Rattle.stations.specs.View.{HasHead, head_in}
use Rattle.view.specs.View.{Lent, floor_in}
use Rattle.view.proofs.Lengths.{nothing_beyond}
use Rattle.view.proofs.Standing.{Standing, standing}
use Rattle.refusals.specs.declared.Refusal.{Refusal}
use Rattle.refusals.specs.Numbers.{number_of}
use Rattle.reports.specs.declared.Effect.{Effect}
use Rattle.event_answers.specs.Answers.{says}
use Rattle.event_answers.specs.Met.{Met}

-- every refusal has a number
number_some : (r : Refusal) → number_of r ≡ 0 → ⊥
number_some r z = grind arith

module _ (L : Lent) (e : Event) where
  abbrev F : Floor
  F = floor_in L

  -- on a floor that passes, a refusal is one of the checks behind 5
  pub refusal_standing : (passes_form (limits_of L.product) F ≡ true) → refusal (limits_of L.product) F e ≡ refusal_if (limits_of L.product) F false e
  unfolding refusal
  refusal_standing p = rw p refl

  -- on one that does not, 5 is met
  pub refusal_broken : (passes_form (limits_of L.product) F ≡ false) → refusal (limits_of L.product) F e ≡ refusal_if (limits_of L.product) F true e
  unfolding refusal
  refusal_broken p = rw p refl

  -- "A refusal gives its number alone and changes no floor"
  pub meets_refused : (r : ℕ) → refusal (limits_of L.product) F e ≡ r → (r ≡ 0 → ⊥) → Met L L e (refused r)
  unfolding step answer
  meets_refused r q n =
      let differs : eqb (refusal (limits_of L.product) F e) 0 ≡ false = ne_eqb (refusal (limits_of L.product) F e) 0 (λ z. n (sym q ∙ z)) in
      record { product = refl; answers = rw differs (ap refused (sym q)); floor = rw differs refl; untouched = λ _ _. refl }

  -- the same, of a floor that passes
  pub meets_no : (r : ℕ) → passes_form (limits_of L.product) F ≡ true → r ≡ refusal_if (limits_of L.product) F false e → (r ≡ 0 → ⊥) → Met L L e (refused r)
  meets_no r p q n = meets_refused r (refusal_standing p ∙ sym q) n

  -- the same, of what a check found
  pub meets_check : (r : Refusal) → passes_form (limits_of L.product) F ≡ true → number_of r ≡ refusal_if (limits_of L.product) F false e → Met L L e (refused (number_of r))
  meets_check r p q = meets_no (number_of r) p q (number_some r)

  -- "everything else is accepted"
  pub meets_done : (L' : Lent) (l : Report) → L'.product ≡ L.product → refusal (limits_of L.product) F e ≡ 0 → floor_in L' ≡ (accept (limits_of L.product) F e).floor → l ≡ (accept (limits_of L.product) F e).report → Met L L' e (accepted l)
  unfolding step answer
  meets_done L' l same q f r =
      record {
        product = same;
        answers = rw q (ap accepted r);
        floor = rw q f;
        untouched = λ k z. absurd (let y : ◌≡◌ {A = ℕ} 0 1 = cc z in omega arith);
      }

-- an event that was met is met with whatever counts the same
pub meets_counted : (L L' : Lent) (e : Event) (kind a b : ℕ) (f g : Effect) → f ≡ g → Met L L' e (says kind a b g) → Met L L' e (says kind a b f)
meets_counted L L' e kind a b f g same met = subst (λ (h : Effect). Met L L' e (says kind a b h)) (sym same) met

-- what the checks of a call ask of a floor that passes: its own row, and a row for each of its carts
pub checks_ready : (L : Lent) → passes_form (limits_of L.product) (floor_in L) ≡ true → HasHead L.stations × ((head_in L.stations).carts * 19 ≤ length L.carts)
checks_ready L p =
    let X = standing L p in
    let a = X.lengths.stations in
    let b = X.lengths.carts in
    let d = X.sized.counts.carts in
    (omega arith, omega arith)

-- THE FLOOR THAT A CALL LEAVES passes the form rule again
pub passes_again : (L L' : Lent) (e : Event) (a : Answer) → Standing L → Met L L' e a → passes_form (limits_of L.product) (floor_in L') ≡ true
passes_again L L' e a X met = subst (λ (F : Floor). passes_form (limits_of L.product) F ≡ true) (sym met.floor) (form_closed (limits_of L.product) (floor_in L) e (nothing_beyond L X.lengths X.laid) X.passes).1
