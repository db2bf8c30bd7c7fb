-- The program of the plain lists, from an unstarted floor and unstarted lists: no call of it is refused, and what it prints is what the controller
-- answers.
use mathlib.Core.Path.{ap, ap₂, refl, sym, ◌∙◌, ◌≡◌}
use mathlib.Core.Bool.{false}
use mathlib.Core.Option.{Option, none, some}
use mathlib.Core.List.{◌++◌, List, [], ◌∷◌, append_assoc}
use Prim.Native.Nat.{suc, zero, ℕ}
use native.Mathlib.Omega.{arith}
use lib.Dec.{ltb}
use lib.ListN.{drop, length}
use borrow.Author.Tests.{ne_eqb}
use Rattle.protocol.specs.Floor.{Floor, Limits, unstarted}
use Rattle.protocol.specs.Events.{Answer, Event, Report, accepted, enter, flag, group, move, radio, refused, retire, send, send_group, send_long, start, wire}
use Rattle.protocol.specs.Groups.{as_sent}
use Rattle.protocol.specs.Form.{passes_form}
use Rattle.protocol.specs.Refusals.{refusal, refusal_if, wrong_size}
use Rattle.protocol.specs.Step.{accept, answer, step}
use Rattle.protocol.specs.Frames.{Reading, end, frame_of, refused_frame, taken}
use Rattle.protocol.specs.PlainLists.{Exchange, NeverRefused, Plain, PlainCall, call_of, exchanged, exchanges_from, fed, fed_by, head_line, head_lines, plain_answer, plain_begun, plain_refusal, plain_send, plain_sent, plain_start, plain_take, plain_took, plain_unstarted, receipt_line, receipt_lines_from}
use Rattle.protocol.specs.Store.{not_long}
use Rattle.protocol.proofs.Tests.{by_test}
use Rattle.protocol.proofs.Invariant.{History}
use Rattle.protocol.proofs.Updates.{append-nil}
use Rattle.protocol.proofs.InvariantStep.{note}
use Rattle.protocol.proofs.Demand3.{nothing}
use Rattle.protocol.proofs.Ready.{right_size, unstarted_fails}
use Rattle.protocol.proofs.PlainRun.{Beside, Met, beside_start, beside_step, fed_refused, goes, step_taken}

-- WHAT THE LISTS ANSWER

-- to a send and to a take that are not refused
sent_answered : (M : Limits) (P : Plain) (s set : ℕ) (text : List ℕ) → plain_refusal M P (plain_send s set text) ≡ 0
    → plain_answer M P (plain_send s set text) ≡ plain_sent (P.count s)
unfolding plain_answer
sent_answered M P s set text z = rw z

pub head_answered : (M : Limits) (P : Plain) (s c : ℕ) (l : Report) → Met M P (some (plain_take s c)) (accepted l)
    → plain_answer M P (plain_take s c) ≡ plain_took l.b l.text
unfolding plain_answer
head_answered M P s c l m = rw (m.0, m.1)

-- so no call that they meet is refused
met_never_refused : (M : Limits) (P : Plain) (index : ℕ) (call : Option PlainCall) (a : Answer) → Met M P call a
    → NeverRefused (exchanged M P index call)
met_never_refused M P index none a m = tt
met_never_refused M P index (some (plain_start n k)) a m = absurd m
met_never_refused M P index (some (plain_send s set text)) a m = rw (sent_answered M P s set text m) (tt, tt)
met_never_refused M P index (some (plain_take s c)) (refused r) m = absurd m
met_never_refused M P index (some (plain_take s c)) (accepted l) m = rw (head_answered M P s c l m) (tt, tt)

-- and its line is that of the controller's answer
line_met : (M : Limits) (F : Floor) (P : Plain) (index : ℕ) (e : Event) (a : Answer) → Met M P (fed_by (as_sent F e) a) a
    → head_lines (exchanged M P index (fed_by (as_sent F e) a)) ≡ receipt_line index e a
line_met M F P index (start n k) (refused r) m = refl
line_met M F P index (start n k) (accepted l) m = absurd m
line_met M F P index (enter t c) a m = refl
line_met M F P index (send s set text) (refused r) m = refl
line_met M F P index (send s set text) (accepted l) m = refl
line_met M F P index (wire i j) a m = refl
line_met M F P index (radio t c buffer) (refused r) m = refl
line_met M F P index (radio t c buffer) (accepted l) m =
    rw (head_answered M P l.a c l m) (append-nil (receipt_line index (radio t c buffer) (accepted l)))
line_met M F P index (move c to) a m = refl
line_met M F P index (flag c b) a m = refl
line_met M F P index (retire c) a m = refl
line_met M F P index (group g set) a m = refl
line_met M F P index (send_group s g text) (refused r) m = refl
line_met M F P index (send_group s g text) (accepted l) m = refl
line_met M F P index (send_long s set text) (refused r) m = refl
line_met M F P index (send_long s set text) (accepted l) m = refl

-- BEFORE THE START

unstarted_breaks : (M : Limits) → passes_form M unstarted ≡ false
unstarted_breaks M = unstarted_fails M unstarted refl

-- floor and lists of the program: neither started, or beside one another
pub data Along (M : Limits) (F : Floor) (P : Plain) : Type 0 where
  before : F ≡ unstarted → P ≡ plain_unstarted → Along M F P
  beside : (G : History) → Beside M F G P → Along M F P

-- what an event leaves of both, that its call is not refused, and its line
record Goes_on (M : Limits) (F : Floor) (P : Plain) (index : ℕ) (e : Event) (X : Floor) (a : Answer) : Type 0 where
  along : Along M X (fed M P (fed_by (as_sent F e) a))
  not_refused : NeverRefused (exchanged M P index (fed_by (as_sent F e) a))
  line : head_lines (exchanged M P index (fed_by (as_sent F e) a)) ≡ receipt_line index e a

-- an event that is refused, and one that is not
when_refused : (M : Limits) (F : Floor) (e : Event) (r : ℕ) → refusal M F e ≡ suc r → (answer M F e ≡ refused (suc r)) × (step M F e ≡ F)
unfolding step answer
when_refused M F e r q = let z = ne_eqb (suc r) 0 (omega arith) in (rw (q, z), rw (q, z))

when_taken : (M : Limits) (F : Floor) (e : Event) → refusal M F e ≡ 0
    → (answer M F e ≡ accepted (accept M F e).report) × (step M F e ≡ (accept M F e).floor)
unfolding step answer
when_taken M F e q = (rw q, rw q)

-- an unstarted floor refuses all but a start
first_refused : (M : Limits) (index : ℕ) (e : Event) (r : ℕ) → refusal M unstarted e ≡ suc r → receipt_line index e (refused (suc r)) ≡ []
    → Goes_on M unstarted plain_unstarted index e (step M unstarted e) (answer M unstarted e)
first_refused M index e r q g =
    let z = when_refused M unstarted e r q in
    rw (z.0, z.1)
    (record {
      along = rw (fed_refused (as_sent unstarted e) (suc r)) (before refl refl);
      not_refused = rw (fed_refused (as_sent unstarted e) (suc r)) tt;
      line = rw (fed_refused (as_sent unstarted e) (suc r)) (sym g);
    })

-- unstarted lists accept the start that the floor accepted: they check it alike
start_passes : (M : Limits) (n k : ℕ) → wrong_size M n k ≡ false → plain_refusal M plain_unstarted (plain_start n k) ≡ 0
unfolding plain_refusal
start_passes M n k w = rw w

start_answered : (M : Limits) (n k : ℕ) → wrong_size M n k ≡ false → plain_answer M plain_unstarted (plain_start n k) ≡ plain_begun
unfolding plain_answer
start_answered M n k w = rw (start_passes M n k w)

first_started : (M : Limits) (index n k : ℕ) → wrong_size M n k ≡ false
    → Goes_on M unstarted plain_unstarted index (start n k) (step M unstarted (start n k)) (answer M unstarted (start n k))
unfolding refusal refusal_if accept
first_started M index n k w =
    let z = when_taken M unstarted (start n k) (rw w) in
    rw (z.0, z.1)
    (record {
      along = rw (step_taken M plain_unstarted (plain_start n k) (start_passes M n k w)) (beside nothing (beside_start M n k (right_size M n k w)));
      not_refused = rw (start_answered M n k w) (tt, tt);
      line = refl;
    })

first_step : (M : Limits) (index : ℕ) (e : Event) → Goes_on M unstarted plain_unstarted index e (step M unstarted e) (answer M unstarted e)
unfolding refusal refusal_if
first_step M index (start n k) =
    by_test (wrong_size M n k)
    (λ w. first_refused M index (start n k) 6 (rw w) refl)
    (λ w. first_started M index n k w)
first_step M index (enter t c) = first_refused M index (enter t c) 4 (rw (unstarted_breaks M)) refl
first_step M index (send s set text) =
    by_test (ltb M.text (length text))
    (λ w. first_refused M index (send s set text) 3 (rw w) refl)
    (λ w. first_refused M index (send s set text) 4 (rw (w, unstarted_breaks M)) refl)
first_step M index (wire i j) = first_refused M index (wire i j) 4 (rw (unstarted_breaks M)) refl
first_step M index (radio t c buffer) = first_refused M index (radio t c buffer) 4 (rw (unstarted_breaks M)) refl
first_step M index (move c to) = first_refused M index (move c to) 4 (rw (unstarted_breaks M)) refl
first_step M index (flag c b) = first_refused M index (flag c b) 4 (rw (unstarted_breaks M)) refl
first_step M index (retire c) = first_refused M index (retire c) 4 (rw (unstarted_breaks M)) refl
first_step M index (group g set) = first_refused M index (group g set) 4 (rw (unstarted_breaks M)) refl
first_step M index (send_group s g text) =
    by_test (ltb M.text (length text))
    (λ w. first_refused M index (send_group s g text) 3 (rw w) refl)
    (λ w. first_refused M index (send_group s g text) 4 (rw (w, unstarted_breaks M)) refl)
first_step M index (send_long s set text) =
    by_test (not_long M (length text))
    (λ w. first_refused M index (send_long s set text) 3 (rw w) refl)
    (λ w. first_refused M index (send_long s set text) 4 (rw (w, unstarted_breaks M)) refl)

-- every event
along_step : (M : Limits) (F : Floor) (P : Plain) (index : ℕ) (e : Event) → Along M F P → Goes_on M F P index e (step M F e) (answer M F e)
along_step M F P index e (before a b) = rw (a, b) (first_step M index e)
along_step M F P index e (beside G B) =
    let met = (goes M F G P B e).met in
    record {
      along = beside (note (as_sent F e) (answer M F e) G) (beside_step M F G P B e);
      not_refused = met_never_refused M P index (call_of M F e) (answer M F e) met;
      line = line_met M F P index e (answer M F e) met;
    }

-- THE WHOLE INPUT

lines_append : (a b : List Exchange) → head_lines (a ++ b) ≡ head_lines a ++ head_lines b
lines_append [] b = refl
lines_append (x ∷ a) b =
    ap (λ (y : List ℕ). head_line x.index x.call x.answer ++ y) (lines_append a b)
    ∙ sym (append_assoc (head_line x.index x.call x.answer) (head_lines a) (head_lines b))

refused_append : (a b : List Exchange) → NeverRefused a → NeverRefused b → NeverRefused (a ++ b)
refused_append [] b h g = g
refused_append (x ∷ a) b h g = (h.0, refused_append a b h.1 g)

-- of the calls from here on, none is refused, and their lines are the controller's
pub record Through (M : Limits) (k : ℕ) (F : Floor) (P : Plain) (index : ℕ) (l : List ℕ) : Type 0 where
  pub not_refused : NeverRefused (exchanges_from M k F P index l)
  pub lines : head_lines (exchanges_from M k F P index l) ≡ receipt_lines_from M k F index l

one_frame_more : (M : Limits) (k : ℕ) (F : Floor) (P : Plain) (index : ℕ) (l : List ℕ) → Along M F P
    → ((X : Floor) (Q : Plain) (i : ℕ) (x : List ℕ) → Along M X Q → Through M k X Q i x) → (r : Reading) → frame_of M l ≡ r
    → Through M (suc k) F P index l
unfolding exchanges_from receipt_lines_from
one_frame_more M k F P index l A rest end q = record { not_refused = rw (q, exchanges_from) tt; lines = rw (q, exchanges_from, receipt_lines_from) }
one_frame_more M k F P index l A rest (refused_frame r) q =
    record { not_refused = rw (q, exchanges_from) tt; lines = rw (q, exchanges_from, receipt_lines_from) }
one_frame_more M k F P index l A rest (taken e size) q =
    let z = along_step M F P index e A in
    let T = rest (step M F e) (fed M P (call_of M F e)) (suc index) (drop size l) z.along in
    record {
      not_refused = rw (q, exchanges_from) (refused_append (exchanged M P index (call_of M F e)) _ z.not_refused T.not_refused);
      lines = rw (q, exchanges_from, receipt_lines_from)
          (lines_append (exchanged M P index (call_of M F e)) _ ∙ ap₂ (λ (a b : List ℕ). a ++ b) z.line T.lines);
    }

pub through : (M : Limits) (k : ℕ) (F : Floor) (P : Plain) (index : ℕ) (l : List ℕ) → Along M F P → Through M k F P index l
unfolding exchanges_from receipt_lines_from
through M zero F P index l A = record { not_refused = tt; lines = refl }
through M (suc k) F P index l A = one_frame_more M k F P index l A (λ X Q i x. through M k X Q i x) (frame_of M l) refl
