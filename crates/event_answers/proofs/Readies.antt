-- A FLOOR THAT EVENTS CAN GO ON WITH: what an event learns of it from the mark, and that it is one again afterwards.
use mathlib.Core.Path.{◌≡◌, refl, sym, ap, ◌∙◌, subst}
use mathlib.Core.Bool.{Bool, true, false, not}
use native.Mathlib.Omega.{arith}
use lib.Dec.{eqb, ltb}
use lib.ListN.{length}
use borrow.Author.Tests.{eqb-true, not-true, not-false}
use Rattle.protocol.specs.Floor.{Limits, Floor, Product, limits_of}
use Rattle.protocol.specs.Events.{Event, Answer, start, enter, send, wire, radio, move, flag, group, send_group, send_long, retire}
use Rattle.protocol.specs.Store.{not_long}
use Rattle.protocol.specs.Form.{passes_form}
use Rattle.protocol.specs.Blank.{BlankBeyond}
use Rattle.protocol.specs.Refusals.{refusal, refusal_if}
use Rattle.protocol.specs.Step.{step, accept}
use Rattle.protocol.proofs.Tests.{by_test, clash, on_cond}
use Rattle.protocol.proofs.Accepted.{passed_check}
use Rattle.protocol.proofs.Demand3.{step_size}
use Rattle.protocol.proofs.Ready as protocol
use Rattle.protocol.proofs.Theorems.{form_unstarted}
use Rattle.stations.specs.View.{HasHead, head_in}
use Rattle.view.specs.View.{Lent, floor_in}
use Rattle.view.proofs.Lengths.{lengths_of, lengths_right_lem, nothing_beyond}
use Rattle.view.proofs.Standing.{standing}
use Rattle.event_answers.specs.Met.{Met, Ready}

-- A FLOOR THAT PASSES THE FORM RULE is one, in the way of the code that tested it
pub tested_ready : (L : Lent) (tested : Bool) → tested ≡ passes_form (limits_of L.product) (floor_in L) → not tested ≡ false → Ready L
tested_ready L tested test_is h =
    let passes : passes_form (limits_of L.product) (floor_in L) ≡ true = sym test_is ∙ not-false tested h in
    record { lengths = lengths_right_lem L (standing L passes).lengths; passes = λ _. passes }

-- the word of the mark is there
pub has_head : (L : Lent) → Ready L → HasHead L.stations
has_head L R = let a = (lengths_of L R.lengths).stations in omega arith

-- THE MARK says whether the floor is started, in the way of the code that asked: it passes the form rule if it is, and breaks it if not
module _ (L : Lent) (marked : Bool) (mark_is : marked ≡ eqb (head_in L.stations).mark 1) where
  pub started_passes : Ready L → not marked ≡ false → passes_form (limits_of L.product) (floor_in L) ≡ true
  started_passes R h = R.passes (sym mark_is ∙ not-false marked h)

  pub unstarted_breaks : not marked ≡ true → false ≡ passes_form (limits_of L.product) (floor_in L)
  unstarted_breaks h = sym (form_unstarted (limits_of L.product) (floor_in L) (sym mark_is ∙ not-true marked h))

-- a floor that is not started takes only a start
first_lengths : (M : Limits) (F : Floor) (b : Bool) → b ≡ true → (e : Event) → refusal_if M F b e ≡ 0 → (accept M F e).floor.lengths_right ≡ true
unfolding refusal_if accept
first_lengths M F b t (start n k) r = refl
first_lengths M F b t (enter u c) r = clash b t (passed_check 5 b _ (omega arith) r).0
first_lengths M F b t (send s set text) r = clash b t (passed_check 5 b _ (omega arith) (passed_check 4 (ltb M.text (length text)) _ (omega arith) r).1).0
first_lengths M F b t (wire i j) r = clash b t (passed_check 5 b _ (omega arith) r).0
first_lengths M F b t (radio u c buffer) r = clash b t (passed_check 5 b _ (omega arith) r).0
first_lengths M F b t (move c to) r = clash b t (passed_check 5 b _ (omega arith) r).0
first_lengths M F b t (flag c on) r = clash b t (passed_check 5 b _ (omega arith) r).0
first_lengths M F b t (group g set) r = clash b t (passed_check 5 b _ (omega arith) r).0
first_lengths M F b t (send_group s g text) r = clash b t (passed_check 5 b _ (omega arith) (passed_check 4 (ltb M.text (length text)) _ (omega arith) r).1).0
first_lengths M F b t (send_long s set text) r = clash b t (passed_check 5 b _ (omega arith) (passed_check 4 (not_long M (length text)) _ (omega arith) r).1).0
first_lengths M F b t (retire c) r = clash b t (passed_check 5 b _ (omega arith) r).0

lengths_stay : (M : Limits) (F : Floor) (e : Event) → F.lengths_right ≡ true → (step M F e).lengths_right ≡ true
unfolding step refusal
lengths_stay M F e r =
    by_test F.started (λ s. (step_size M F s e).lengths_right ∙ r)
    (λ s. on_cond (λ (X : Floor). X.lengths_right ≡ true) (eqb (refusal M F e) 0)
    (λ b. first_lengths M F (not (passes_form M F)) (ap not (form_unstarted M F s)) e (eqb-true (refusal M F e) 0 b)) (λ b. r))

-- EVENTS CAN GO ON with what an event leaves
pub stays_ready : (L L' : Lent) (e : Event) (a : Answer) → Ready L → Met L L' e a → Ready L'
stays_ready L L' e a R met =
    let M : Limits = limits_of L.product in
    let blank : (floor_in L).started ≡ true → BlankBeyond M (floor_in L) = λ s. nothing_beyond L (lengths_of L R.lengths) (standing L (R.passes s)).laid in
    let again : protocol.Ready M (floor_in L') = subst (λ (F : Floor). protocol.Ready M F) (sym met.floor) (protocol.ready_step M (floor_in L) e (λ s. (blank s, R.passes s))) in
    record {
      lengths = ap (λ (F : Floor). F.lengths_right) met.floor ∙ lengths_stay M (floor_in L) e R.lengths;
      passes = λ s. ap (λ (P : Product). passes_form (limits_of P) (floor_in L')) met.product ∙ (again s).1;
    }
