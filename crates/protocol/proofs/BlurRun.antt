-- Two runs whose events differ only in text octets, lengths equal, are answered alike but for the text.
use mathlib.Core.Path.{ap, ap₂, refl, ◌∙◌, ◌≡◌}
use mathlib.Core.Bool.{Bool, not}
use mathlib.Core.List.{List, [], map, ◌∷◌}
use native.Mathlib.Omega.{arith}
use lib.Dec.{eqb}
use Rattle.protocol.specs.Floor.{Floor, Limits}
use Rattle.protocol.specs.Events.{Answer, Done, Event, accepted, enter, flag, group, move, radio, retire, send, send_group, send_long, start, wire}
use Rattle.protocol.specs.Handoff.{room_of}
use Rattle.protocol.specs.Wired.{free_room}
use Rattle.protocol.specs.Wireless.{queue_head}
use Rattle.protocol.specs.Form.{passes_form}
use Rattle.protocol.specs.Refusals.{is_named, not_entered, refusal, refusal_if}
use Rattle.protocol.specs.Step.{answer, answers, floor_after, step}
use Rattle.protocol.specs.Blur.{blur, blur_answer, blur_event}
use Rattle.protocol.proofs.Tests.{by_option_lem, by_test, same_test}
use Rattle.protocol.proofs.FormTest.{Clauses, clauses_of, passes_of}
use Rattle.protocol.proofs.BlurLaws.{accept_blurred, empty_blurred, head_blurred, length_blurred, store_blurred}

-- THE FORM RULE sees lengths alone

clauses_blurred : (M : Limits) (F : Floor) → Clauses M F → Clauses M (blur F)
unfolding room_of
clauses_blurred M F P =
    record {
      floor = P.floor;
      station = P.station;
      cart = P.cart;
      room = λ m l. let h = P.room m l in (h.0, (h.1.0, (h.1.1.0, let z = length_blurred (F.text m) in let y = h.1.1.1 in omega arith)));
      held = P.held;
      entry = P.entry;
      copy = P.copy;
      line = P.line;
      order = P.order;
      handoff = P.handoff;
      group = P.group;
      stored = (let z = store_blurred M F.waiting F.text in let y = P.stored in omega arith);
    }

blurred_clauses : (M : Limits) (F : Floor) → Clauses M (blur F) → Clauses M F
unfolding room_of
blurred_clauses M F P =
    record {
      floor = P.floor;
      station = P.station;
      cart = P.cart;
      room = λ m l. let h = P.room m l in (h.0, (h.1.0, (h.1.1.0, let z = length_blurred (F.text m) in let y = h.1.1.1 in omega arith)));
      held = P.held;
      entry = P.entry;
      copy = P.copy;
      line = P.line;
      order = P.order;
      handoff = P.handoff;
      group = P.group;
      stored = (let z = store_blurred M F.waiting F.text in let y = P.stored in omega arith);
    }

pub passes_blurred : (M : Limits) (F : Floor) → passes_form M (blur F) ≡ passes_form M F
passes_blurred M F =
    same_test (passes_form M (blur F)) (passes_form M F)
    (λ h. passes_of M F (blurred_clauses M F (clauses_of M (blur F) h)))
    (λ h. passes_of M (blur F) (clauses_blurred M F (clauses_of M F h)))

-- THE REFUSALS

refusal_if_blurred : (M : Limits) (F : Floor) (b : Bool) (e : Event) → refusal_if M (blur F) b (blur_event e) ≡ refusal_if M F b e
unfolding refusal_if not_entered free_room is_named
refusal_if_blurred M F b (start n k) = refl
refusal_if_blurred M F b (enter t c) = refl
refusal_if_blurred M F b (send s set text) = rw (length_blurred text, empty_blurred text)
refusal_if_blurred M F b (wire i j) = refl
refusal_if_blurred M F b (radio t c buffer) = rw (head_blurred M F t)
    (by_option_lem (queue_head M F t) (λ e. rw e) (λ m e. rw (e, length_blurred (F.text m))))
refusal_if_blurred M F b (move c to) = refl
refusal_if_blurred M F b (flag c on) = refl
refusal_if_blurred M F b (retire c) = refl
refusal_if_blurred M F b (group g set) = refl
refusal_if_blurred M F b (send_group s g text) = rw (length_blurred text, empty_blurred text)
refusal_if_blurred M F b (send_long s set text) = rw (length_blurred text, store_blurred M F.waiting F.text)

pub refusal_blurred : (M : Limits) (F : Floor) (e : Event) → refusal M (blur F) (blur_event e) ≡ refusal M F e
unfolding refusal
refusal_blurred M F e = ap (λ (b : Bool). refusal_if M (blur F) (not b) (blur_event e)) (passes_blurred M F) ∙ refusal_if_blurred M F
    (not (passes_form M F)) e

-- A STEP AND ITS ANSWER

pub step_blurred : (M : Limits) (F : Floor) (e : Event) → step M (blur F) (blur_event e) ≡ blur (step M F e)
unfolding step
step_blurred M F e =
    rw (refusal_blurred M F e)
    (by_test (eqb (refusal M F e) 0) (λ z. rw z (ap (λ (d : Done). d.floor) (accept_blurred M F e))) (λ z. rw z))

pub answer_blurred : (M : Limits) (F : Floor) (e : Event) → answer M (blur F) (blur_event e) ≡ blur_answer (answer M F e)
unfolding answer
answer_blurred M F e =
    rw (refusal_blurred M F e)
    (by_test (eqb (refusal M F e) 0) (λ z. rw z (ap (λ (d : Done). accepted d.report) (accept_blurred M F e))) (λ z. rw z))

pub answers_blurred : (M : Limits) (F : Floor) (es : List Event) → answers M (blur F) (map blur_event es) ≡ map blur_answer (answers M F es)
unfolding answers
answers_blurred M F [] = refl
answers_blurred M F (e ∷ es) =
    ap₂ (λ (a : Answer) (l : List Answer). a ∷ l) (answer_blurred M F e)
    (ap (λ (X : Floor). answers M X (map blur_event es)) (step_blurred M F e) ∙ answers_blurred M (step M F e) es)

pub floor_blurred : (M : Limits) (F : Floor) (es : List Event) → floor_after M (blur F) (map blur_event es) ≡ blur (floor_after M F es)
unfolding floor_after
floor_blurred M F [] = refl
floor_blurred M F (e ∷ es) = ap (λ (X : Floor). floor_after M X (map blur_event es)) (step_blurred M F e) ∙ floor_blurred M (step M F e) es
