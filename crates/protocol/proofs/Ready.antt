use mathlib.Core.Path.{ap, ap₂, refl, sym, ◌∙◌, ◌≡◌}
use mathlib.Core.Bool.{◌&&◌, Bool, cond, false, not, true}
use mathlib.Core.List.{◌++◌, List, [], ◌∷◌}
use Prim.Native.Nat.{suc, zero, ℕ}
use native.Mathlib.Omega.{arith}
use lib.Dec.{eqb, leb, ltb}
use lib.ListN.{drop, length}
use borrow.Author.Tests.{eqb-true, leb-true, ltb-true, not-false}
use Rattle.protocol.specs.Floor.{Floor, Limits}
use Rattle.protocol.specs.Events.{Answer, Event, accepted, enter, flag, group, move, radio, refused, retire, send, send_group, send_long, start, wire}
use Rattle.protocol.specs.Wired.{buffer}
use Rattle.protocol.specs.Form.{passes_form}
use Rattle.protocol.specs.Blank.{BlankBeyond}
use Rattle.protocol.specs.Refusals.{refusal, refusal_if, wrong_size}
use Rattle.protocol.specs.Step.{accept, answer, answers, floor_after, step}
use Rattle.protocol.specs.Frames.{Reading, end, frame_of, refused_frame, taken}
use Rattle.protocol.specs.Printed.{line_of, lines_from}
use Rattle.protocol.specs.Store.{not_long}
use Rattle.protocol.proofs.Tests.{and_left, and_right, by_test, clash, on_cond}
use Rattle.protocol.proofs.Accepted.{passed_check}
use Rattle.protocol.proofs.Demand3.{step_size}
use Rattle.protocol.proofs.Sized.{CountsFit}
use Rattle.protocol.proofs.FormTest.{clauses_of}
use Rattle.protocol.proofs.FormRule.{form_kept, form_started}

-- Floors that are ready: started ones pass the form rule. Every run from an unstarted floor leaves such a floor, so 5 is met exactly where
-- none is started.
-- a floor that is started passes the form rule, and has nothing beyond the limits
abbrev pub Ready : Limits → Floor → Type 0
Ready M F = F.started ≡ true → BlankBeyond M F × (passes_form M F ≡ true)

pub unstarted_fails : (M : Limits) (F : Floor) → F.started ≡ false → passes_form M F ≡ false
unstarted_fails M F e = by_test (passes_form M F) (λ h. clash F.started (clauses_of M F h).floor.0 e) (λ h. h)

-- refusal 5 is met exactly where the floor is not started
pub only_unstarted : (M : Limits) (F : Floor) → Ready M F → not (passes_form M F) ≡ not F.started
only_unstarted M F R = by_test F.started (λ s. ap not (R s).1 ∙ sym (ap not s)) (λ s. ap not (unstarted_fails M F s) ∙ sym (ap not s))

-- a size that a start accepts
pub right_size : (M : Limits) (n k : ℕ) → wrong_size M n k ≡ false → CountsFit M n k
right_size M n k e =
    let z = not-false ((ltb 0 n && leb n M.stations) && (ltb 0 k && leb k M.carts)) e in
    let a = and_left (ltb 0 n && leb n M.stations) (ltb 0 k && leb k M.carts) z in
    let b = and_right (ltb 0 n && leb n M.stations) (ltb 0 k && leb k M.carts) z in
    record {
      some_stations = ltb-true 0 n (and_left (ltb 0 n) (leb n M.stations) a);
      stations = leb-true n M.stations (and_right (ltb 0 n) (leb n M.stations) a);
      some_carts = ltb-true 0 k (and_left (ltb 0 k) (leb k M.carts) b);
      carts = leb-true k M.carts (and_right (ltb 0 k) (leb k M.carts) b);
    }

pub record MayStart (M : Limits) (F : Floor) (n k : ℕ) : Type 0 where
  pub lengths : F.lengths_right ≡ true
  pub fresh : F.started ≡ false
  pub size : CountsFit M n k

pub may_start : (M : Limits) (F : Floor) (broken : Bool) (n k : ℕ) → refusal_if M F broken (start n k) ≡ 0 → MayStart M F n k
unfolding refusal_if
may_start M F broken n k e =
    let a5 = passed_check 5 (not F.lengths_right) _ (omega arith) e in
    let a6 = passed_check 6 F.started _ (omega arith) a5.1 in
    let a7 = passed_check 7 (wrong_size M n k) _ (omega arith) a6.1 in
    record { lengths = not-false F.lengths_right a5.0; fresh = a6.0; size = right_size M n k a7.0 }

-- a floor that breaks the form rule takes only a start
only_start : (M : Limits) (F : Floor) (b : Bool) → b ≡ true → (e : Event) → refusal_if M F b e ≡ 0 → Ready M (accept M F e).floor
unfolding refusal_if accept
only_start M F b t (start n k) r = λ h. form_started M n k (may_start M F b n k r).size
only_start M F b t (enter u c) r = clash b t (passed_check 5 b _ (omega arith) r).0
only_start M F b t (send s set text) r = clash b t (passed_check 5 b _ (omega arith) (passed_check 4 (ltb M.text (length text)) _ (omega arith) r).1).0
only_start M F b t (wire i j) r = clash b t (passed_check 5 b _ (omega arith) r).0
only_start M F b t (radio u c buffer) r = clash b t (passed_check 5 b _ (omega arith) r).0
only_start M F b t (move c to) r = clash b t (passed_check 5 b _ (omega arith) r).0
only_start M F b t (flag c on) r = clash b t (passed_check 5 b _ (omega arith) r).0
only_start M F b t (retire c) r = clash b t (passed_check 5 b _ (omega arith) r).0
only_start M F b t (group g set) r = clash b t (passed_check 5 b _ (omega arith) r).0
only_start M F b t (send_long s set text) r = clash b t (passed_check 5 b _ (omega arith)
    (passed_check 4 (not_long M (length text)) _ (omega arith) r).1).0
only_start M F b t (send_group s g text) r =
    clash b t (passed_check 5 b _ (omega arith) (passed_check 4 (ltb M.text (length text)) _ (omega arith) r).1).0

by_refusal : (M : Limits) (F : Floor) (r : ℕ) (X : Floor) → Ready M F → (r ≡ 0 → Ready M X) → Ready M (cond (eqb r 0) X F)
by_refusal M F r X R h = on_cond (λ (Y : Floor). Ready M Y) (eqb r 0) (λ b. h (eqb-true r 0 b)) (λ b. R)

-- every event, start among them, leaves such a floor
pub ready_step : (M : Limits) (F : Floor) (e : Event) → Ready M F → Ready M (step M F e)
unfolding step refusal
ready_step M F e R =
    by_test F.started
    (λ s. let z = form_kept M F e (R s).0 (R s).1 in λ h. z)
    (λ s. by_refusal M F (refusal M F e) (accept M F e).floor R (only_start M F (not (passes_form M F)) (ap not (unstarted_fails M F s)) e))

pub ready_run : (M : Limits) (F : Floor) (es : List Event) → Ready M F → Ready M (floor_after M F es)
unfolding floor_after
ready_run M F [] R = R
ready_run M F (e ∷ es) R = ready_run M (step M F e) es (ready_step M F e R)

pub ready_unstarted : (M : Limits) (F : Floor) → F.started ≡ false → Ready M F
ready_unstarted M F e s = clash F.started s e

-- a started floor stays started
pub started_after : (M : Limits) (F : Floor) → F.started ≡ true → (es : List Event) → (floor_after M F es).started ≡ true
unfolding floor_after
started_after M F b [] = b
started_after M F b (e ∷ es) = started_after M (step M F e) ((step_size M F b e).started ∙ b) es

-- WITH REFUSAL 5 READ OFF THE MARK ALONE: what the examples compute

-- the step and the answer, where the mark alone decides 5
unfoldable pub quick_step : Limits → Floor → Event → Floor
quick_step M F e = cond (eqb (refusal_if M F (not F.started) e) 0) (accept M F e).floor F

unfoldable pub quick_answer : Limits → Floor → Event → Answer
quick_answer M F e = cond (eqb (refusal_if M F (not F.started) e) 0) (accepted (accept M F e).report) (refused (refusal_if M F (not F.started) e))

pub quick_step_lem : (M : Limits) (F : Floor) (e : Event) → Ready M F → step M F e ≡ quick_step M F e
unfolding step refusal quick_step
quick_step_lem M F e R = ap (λ (b : Bool). cond (eqb (refusal_if M F b e) 0) (accept M F e).floor F) (only_unstarted M F R)

pub quick_answer_lem : (M : Limits) (F : Floor) (e : Event) → Ready M F → answer M F e ≡ quick_answer M F e
unfolding answer refusal quick_answer
quick_answer_lem M F e R = ap (λ (b : Bool). cond (eqb (refusal_if M F b e) 0) (accepted (accept M F e).report) (refused (refusal_if M F b e))) (only_unstarted M F R)

unfoldable pub quick_floor : Limits → Floor → List Event → Floor
quick_floor M F [] = F
quick_floor M F (e ∷ es) = quick_floor M (quick_step M F e) es

pub quick_floor_lem : (M : Limits) (F : Floor) (es : List Event) → Ready M F → floor_after M F es ≡ quick_floor M F es
unfolding floor_after quick_floor
quick_floor_lem M F [] R = refl
quick_floor_lem M F (e ∷ es) R = quick_floor_lem M (step M F e) es (ready_step M F e R) ∙ ap (λ (X : Floor). quick_floor M X es) (quick_step_lem M F e R)

unfoldable pub quick_answers : Limits → Floor → List Event → List Answer
quick_answers M F [] = []
quick_answers M F (e ∷ es) = quick_answer M F e ∷ quick_answers M (quick_step M F e) es

pub quick_answers_lem : (M : Limits) (F : Floor) (es : List Event) → Ready M F → answers M F es ≡ quick_answers M F es
unfolding answers quick_answers
quick_answers_lem M F [] R = refl
quick_answers_lem M F (e ∷ es) R =
    ap₂ (λ (a : Answer) (l : List Answer). a ∷ l) (quick_answer_lem M F e R)
    (quick_answers_lem M (step M F e) es (ready_step M F e R) ∙ ap (λ (X : Floor). quick_answers M X es) (quick_step_lem M F e R))

unfoldable pub quick_lines : Limits → ℕ → Floor → ℕ → List ℕ → List ℕ
quick_lines M zero F index l = []
quick_lines M (suc k) F index l =
    elim (frame_of M l) [
      | end ↦ []
      | refused_frame r ↦ line_of index (refused r)
      | taken e size ↦ line_of index (quick_answer M F e) ++ quick_lines M k (quick_step M F e) (suc index) (drop size l)
    ]

-- one line and the rest
quick_line : (M : Limits) (k : ℕ) (F : Floor) (index : ℕ) (l : List ℕ) → Ready M F → ((X : Floor) (i : ℕ) (x : List ℕ) → Ready M X → lines_from M k X i x ≡ quick_lines M k X i x)
    → (r : Reading) → frame_of M l ≡ r → lines_from M (suc k) F index l ≡ quick_lines M (suc k) F index l
unfolding lines_from quick_lines
quick_line M k F index l R rest end q = rw (q, lines_from, quick_lines)
quick_line M k F index l R rest (refused_frame r) q = rw (q, lines_from, quick_lines)
quick_line M k F index l R rest (taken e size) q =
    rw (q, lines_from, quick_lines)
    (ap₂ (λ (a : Answer) (x : List ℕ). line_of index a ++ x) (quick_answer_lem M F e R)
    (rest (step M F e) (suc index) (drop size l) (ready_step M F e R) ∙ ap (λ (X : Floor). quick_lines M k X (suc index) (drop size l)) (quick_step_lem M F e R)))

pub quick_lines_lem : (M : Limits) (k : ℕ) (F : Floor) (index : ℕ) (l : List ℕ) → Ready M F → lines_from M k F index l ≡ quick_lines M k F index l
unfolding lines_from quick_lines
quick_lines_lem M zero F index l R = refl
quick_lines_lem M (suc k) F index l R = quick_line M k F index l R (λ X i x. quick_lines_lem M k X i x) (frame_of M l) refl
