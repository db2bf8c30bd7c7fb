-- THE PRINTED RUN: what the code prints from any unstarted lent floor is `printed_run`, which begins with the written one. Two unstarted floors print
-- alike, and more turns than frames change nothing.
use mathlib.Core.Path.{◌≡◌, refl, sym, ap, ap₂, ◌∙◌}
use mathlib.Core.Bool.{Bool, true, false, not, cond}
use mathlib.Core.List.{List, [], ◌++◌, append-nil}
use mathlib.Core.Logic.{◌⊎◌, inl, inr, ⊎_elim}
use Prim.Native.Nat.{ℕ, zero, suc, ◌+◌}
use native.Mathlib.Omega.{arith}
use lib.Dec.{eqb, ltb}
use lib.ListN.{length, take, drop}
use lib.Seq.{take-append_seam}
use borrow.Author.Tests.{eq-eqb, ne_eqb}
use Rattle.protocol.specs.Floor.{Limits, Product, Floor, limits, limits_of, unstarted}
use Rattle.protocol.specs.Events.{Event, start, enter, send, wire, radio, move, flag, group, send_group, send_long, retire, Answer, refused, accepted}
use Rattle.protocol.specs.Store.{not_long}
use Rattle.protocol.specs.Form.{passes_form}
use Rattle.protocol.specs.Refusals.{check, wrong_size, refusal, refusal_if}
use Rattle.protocol.specs.Step.{accept, step, answer}
use Rattle.protocol.specs.Frames.{Reading, end, refused_frame, taken, frame_of, read_at}
use Rattle.protocol.specs.Printed.{line_of, lines_from, printed_run}
use Rattle.protocol.proofs.Tests.{by_test, by_eq, clash}
use Rattle.protocol.proofs.Theorems.{form_unstarted}
use Rattle.view.specs.View.{Lent, floor_in}
use Rattle.frame_lines.specs.Lines.{written}
use Rattle.frame_run.specs.declared.Progress.{Progress}
use Rattle.frame_run.specs.Stops.{stop_number}
use Rattle.frame_run.specs.Piece.{Ran, still, run_from}
use Rattle.frame_run.specs.CanRun.{Unstarted}
use Rattle.frame_run.specs.Went.{NoneWhole, Went}
use Rattle.frame_run.proofs.Pieces.{prints}
use Rattle.frame_run.proofs.Whole.{runs_go_on, runs_end, turns_enough}

-- 5 is met
five : (b : Bool) (rest : ℕ) → b ≡ true → check 5 b rest ≡ 5
five b rest e = rw e refl

-- the refusal of an event on such a floor, whatever else the floor is
abbrev first_refusal : Limits → Event → ℕ
first_refusal M (start n k) = check 7 (wrong_size M n k) 0
first_refusal M (enter t c) = 5
first_refusal M (send s set text) = check 4 (ltb M.text (length text)) 5
first_refusal M (wire i j) = 5
first_refusal M (radio t c buffer) = 5
first_refusal M (move c to) = 5
first_refusal M (flag c b) = 5
first_refusal M (group g set) = 5
first_refusal M (send_group s g text) = check 4 (ltb M.text (length text)) 5
first_refusal M (send_long s set text) = check 4 (not_long M (length text)) 5
first_refusal M (retire c) = 5

first_is : (M : Limits) (F : Floor) → Unstarted F → (e : Event) → refusal M F e ≡ first_refusal M e
unfolding refusal refusal_if
first_is M F U (start n k) = ap₂ (λ (a b : Bool). check 5 (not a) (check 6 b (check 7 (wrong_size M n k) 0))) U.lengths U.fresh
first_is M F U (enter t c) = five (not (passes_form M F)) _ (ap not (form_unstarted M F U.fresh))
first_is M F U (send s set text) = ap (check 4 (ltb M.text (length text))) (five (not (passes_form M F)) _ (ap not (form_unstarted M F U.fresh)))
first_is M F U (wire i j) = five (not (passes_form M F)) _ (ap not (form_unstarted M F U.fresh))
first_is M F U (radio t c buffer) = five (not (passes_form M F)) _ (ap not (form_unstarted M F U.fresh))
first_is M F U (move c to) = five (not (passes_form M F)) _ (ap not (form_unstarted M F U.fresh))
first_is M F U (flag c b) = five (not (passes_form M F)) _ (ap not (form_unstarted M F U.fresh))
first_is M F U (group g set) = five (not (passes_form M F)) _ (ap not (form_unstarted M F U.fresh))
first_is M F U (send_group s g text) = ap (check 4 (ltb M.text (length text))) (five (not (passes_form M F)) _ (ap not (form_unstarted M F U.fresh)))
first_is M F U (send_long s set text) = ap (check 4 (not_long M (length text))) (five (not (passes_form M F)) _ (ap not (form_unstarted M F U.fresh)))
first_is M F U (retire c) = five (not (passes_form M F)) _ (ap not (form_unstarted M F U.fresh))

-- so only a start is accepted
four_or_five : (b : Bool) → check 4 b 5 ≡ 0 → ⊥
four_or_five true e = omega arith
four_or_five false e = omega arith

only_starts : (M : Limits) (e : Event) → first_refusal M e ≡ 0 → (n : ℕ) × (k : ℕ) × (e ≡ start n k)
only_starts M (start n k) z = (n, k, refl)
only_starts M (enter t c) z = absurd (omega arith)
only_starts M (send s set text) z = absurd (four_or_five (ltb M.text (length text)) z)
only_starts M (wire i j) z = absurd (omega arith)
only_starts M (radio t c buffer) z = absurd (omega arith)
only_starts M (move c to) z = absurd (omega arith)
only_starts M (flag c b) z = absurd (omega arith)
only_starts M (group g set) z = absurd (omega arith)
only_starts M (send_group s g text) z = absurd (four_or_five (ltb M.text (length text)) z)
only_starts M (send_long s set text) z = absurd (four_or_five (not_long M (length text)) z)
only_starts M (retire c) z = absurd (omega arith)

module _ (M : Limits) (F G : Floor) (U : Unstarted F) (U' : Unstarted G) where
  same_refusal : (e : Event) → refusal M F e ≡ refusal M G e
  same_refusal e = first_is M F U e ∙ sym (first_is M G U' e)

  -- they answer alike
  pub answers_alike : (e : Event) → answer M F e ≡ answer M G e
  unfolding answer accept
  answers_alike e =
      by_eq (first_refusal M e) 0
      (λ z. let s = only_starts M e z in
      ap (answer M F) s.2
      ∙ ap (λ (r : ℕ). cond (eqb r 0) (accepted (accept M F (start s.0 s.1)).report) (refused r)) (same_refusal (start s.0 s.1))
      ∙ sym (ap (answer M G) s.2))
      (λ n. let f : eqb (refusal M F e) 0 ≡ false = ap (λ (r : ℕ). eqb r 0) (first_is M F U e) ∙ ne_eqb (first_refusal M e) 0 n in
      let g : eqb (refusal M G e) 0 ≡ false = ap (λ (r : ℕ). eqb r 0) (first_is M G U' e) ∙ ne_eqb (first_refusal M e) 0 n in
      ap (λ (b : Bool). cond b (accepted (accept M F e).report) (refused (refusal M F e))) f
      ∙ ap refused (same_refusal e)
      ∙ sym (ap (λ (b : Bool). cond b (accepted (accept M G e).report) (refused (refusal M G e))) g))

  -- and are the same floor afterwards, or both as they were
  pub steps_alike : (e : Event) → (step M F e ≡ step M G e) ⊎ ((step M F e ≡ F) × (step M G e ≡ G))
  unfolding step accept
  steps_alike e =
      by_eq (first_refusal M e) 0
      (λ z. let s = only_starts M e z in
      let f : eqb (refusal M F e) 0 ≡ true = ap (λ (r : ℕ). eqb r 0) (first_is M F U e) ∙ eq-eqb (first_refusal M e) 0 z in
      let g : eqb (refusal M G e) 0 ≡ true = ap (λ (r : ℕ). eqb r 0) (first_is M G U' e) ∙ eq-eqb (first_refusal M e) 0 z in
      inl (ap (λ (b : Bool). cond b (accept M F e).floor F) f ∙ ap (λ (x : Event). (accept M F x).floor) s.2
      ∙ sym (ap (λ (b : Bool). cond b (accept M G e).floor G) g ∙ ap (λ (x : Event). (accept M G x).floor) s.2)))
      (λ n. let f : eqb (refusal M F e) 0 ≡ false = ap (λ (r : ℕ). eqb r 0) (first_is M F U e) ∙ ne_eqb (first_refusal M e) 0 n in
      let g : eqb (refusal M G e) 0 ≡ false = ap (λ (r : ℕ). eqb r 0) (first_is M G U' e) ∙ ne_eqb (first_refusal M e) 0 n in
      inr (ap (λ (b : Bool). cond b (accept M F e).floor F) f, ap (λ (b : Bool). cond b (accept M G e).floor G) g))

-- TWO UNSTARTED FLOORS PRINT ALIKE
pub prints_alike : (M : Limits) (n : ℕ) (F G : Floor) → Unstarted F → Unstarted G → (index : ℕ) (l : List ℕ) → lines_from M n F index l ≡ lines_from M n G index l
unfolding lines_from
prints_alike M zero F G U U' index l = refl
prints_alike M (suc n) F G U U' index l = by (frame_of M l) refl (λ e size. prints_alike M n F G U U' (suc index) (drop size l))
  where
    by : (r : Reading) → frame_of M l ≡ r → ((e : Event) (size : ℕ) → lines_from M n F (suc index) (drop size l) ≡ lines_from M n G (suc index) (drop size l))
        → lines_from M (suc n) F index l ≡ lines_from M (suc n) G index l
    by end q h = rw (q, lines_from) refl
    by (refused_frame r) q h = rw (q, lines_from) refl
    by (taken e size) q h =
        let rest : lines_from M n (step M F e) (suc index) (drop size l) ≡ lines_from M n (step M G e) (suc index) (drop size l) =
        ⊎_elim
        (λ s. ap (λ (X : Floor). lines_from M n X (suc index) (drop size l)) s)
        (λ s. ap (λ (X : Floor). lines_from M n X (suc index) (drop size l)) s.0 ∙ h e size ∙ sym (ap (λ (X : Floor). lines_from M n X (suc index) (drop size l)) s.1))
        (steps_alike M F G U U' e) in
        rw (q, lines_from) (ap₂ (λ (a : Answer) (x : List ℕ). line_of index a ++ x) (answers_alike M F G U U' e) rest)

-- at the end of the octets nothing is run
nothing_run : (P : Product) (n : ℕ) (F : Floor) (index : ℕ) (l : List ℕ) → frame_of limits l ≡ end → run_from P n F index l ≡ still F
unfolding run_from
nothing_run P zero F index l e = refl
nothing_run P (suc n) F index l e = rw (e, run_from) refl

-- A RUN OF n FRAMES from an unstarted floor prints the beginning of the printed run
module _ (P : Product) (F : Floor) (U : Unstarted F) (n : ℕ) (l : List ℕ) (all : (run_from P n F 0 l).count ≡ n) where
  abbrev R : Ran
  R = run_from P n F 0 l

  -- the printed run, with as many turns more
  whole_run : printed_run (limits_of P) l ≡ (run_from P (n + suc (length l)) F 0 l).printed
  unfolding printed_run
  whole_run =
      let m = suc (length l) in
      let turned : m + n ≡ n + m = omega arith in
      prints_alike (limits_of P) m unstarted F (record { fresh = refl; lengths = refl }) U 0 l
      ∙ sym (prints P m F 0 l)
      ∙ ap (λ (X : Ran). X.printed) (sym (turns_enough P m n F 0 l (omega arith)) ∙ ap (λ (k : ℕ). run_from P k F 0 l) turned)

  pub printed_begins : (rest : List ℕ) × (printed_run (limits_of P) l ≡ R.printed ++ rest)
  printed_begins =
      by_test R.ended
      (λ e. ([], whole_run ∙ ap (λ (X : Ran). X.printed) (runs_end P n (suc (length l)) F 0 l e) ∙ sym (append-nil R.printed)))
      (λ e. ((run_from P (suc (length l)) R.floor (0 + n) (drop R.octets l)).printed, whole_run ∙ ap (λ (X : Ran). X.printed) (runs_go_on P n (suc (length l)) F 0 l all e)))

  -- and all of it where a frame ended the run, or no octet is left
  pub printed_whole : (R.ended ≡ true) ⊎ (read_at limits l R.octets ≡ end) → printed_run (limits_of P) l ≡ R.printed
  unfolding read_at
  printed_whole over =
      by_test R.ended
      (λ e. whole_run ∙ ap (λ (X : Ran). X.printed) (runs_end P n (suc (length l)) F 0 l e))
      (λ e. ⊎_elim (λ t. clash R.ended t e)
      (λ last. whole_run ∙ ap (λ (X : Ran). X.printed) (runs_go_on P n (suc (length l)) F 0 l all e)
      ∙ ap (λ (X : Ran). R.printed ++ X.printed) (nothing_run P (suc (length l)) R.floor (0 + n) (drop R.octets l) last)
      ∙ append-nil R.printed) over)

-- what was written to the front
pub front_of : (out out' printed : List ℕ) (n : ℕ) → n ≡ length printed → out' ≡ written out 0 printed → take n out' ≡ printed
unfolding written
front_of out out' printed n e q = ap₂ take e q ∙ take-append_seam printed (drop (0 + length printed) out)

-- WHAT `take_frames` PRINTS from an unstarted lent floor with the whole input, where the output has room for it
pub take_frames_prints : (input : List ℕ) (L L' : Lent) (out out' : List ℕ) (p : Progress) → Unstarted (floor_in L) → Went input 0 true L L' out out' p
    → (stop_number p.state ≡ 0 → ⊥) → take p.written out' ≡ printed_run (limits_of L.product) input
take_frames_prints input L L' out out' p U w room =
    let R = run_from L.product p.frames (floor_in L) 0 input in
    front_of out out' R.printed p.written w.run.wrote w.run.octets
    ∙ sym (printed_whole L.product (floor_in L) U p.frames input (sym w.run.counted)
    (by_eq (stop_number p.state) 2 (λ two. inl (w.run.ended ∙ eq-eqb (stop_number p.state) 2 two))
    (λ other.
    let one : stop_number p.state ≡ 1 = let z = w.why in omega arith in
    inr (ap (read_at limits input) (sym w.run.read) ∙ at_end_lem (read_at limits input p.read) (w.waits one)))))
  where
    at_end_lem : (r : Reading) → NoneWhole true r → r ≡ end
    at_end_lem end h = refl
    at_end_lem (refused_frame r) h = clash true refl h.1
    at_end_lem (taken e size) h = absurd h
