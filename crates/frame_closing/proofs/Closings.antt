-- THE PRINTED CLOSING is what the run and the line behind it hand on together: a line behind the frames' lines exactly where every octet was run.
use mathlib.Core.Path.{◌≡◌, refl, sym, ap, ap₂, ◌∙◌, subst}
use mathlib.Core.Bool.{Bool, true, false, cond, ◌&&◌}
use mathlib.Core.List.{List, [], ◌∷◌, ◌++◌}
use mathlib.Core.Logic.{⊎_elim}
use Prim.Native.Nat.{ℕ, zero, suc, ◌+◌, ◌<◌, ◌≤◌}
use native.Mathlib.Omega.{arith}
use lib.Dec.{eqb}
use lib.ListN.{length, take, drop, length-drop}
use lib.Seq.{drop-drop, length-take-le}
use borrow.Author.Tests.{eq-eqb, ne_eqb}
use Rattle.protocol.specs.Floor.{Floor, whole_floor, limits, unstarted}
use Rattle.protocol.specs.Events.{Event}
use Rattle.protocol.specs.Step.{step}
use Rattle.protocol.specs.Frames.{Reading, end, refused_frame, taken, frame_refusal, frame_of, read_at}
use Rattle.protocol.specs.Printed.{printed_run}
use Rattle.protocol.specs.Closing.{closing_line, closing_from, printed_closing}
use Rattle.protocol.proofs.Tests.{by_test, on_cond, clash}
use Rattle.view.specs.View.{Lent, lent, floor_in}
use Rattle.frame_run.specs.Piece.{run_from}
use Rattle.frame_run.specs.CanRun.{Unstarted}
use Rattle.frame_run.proofs.Whole.{taken_front}
use Rattle.frame_run.proofs.Printed.{steps_alike}
use Rattle.frame_stream.specs.declared.Ending.{Ending}
use Rattle.frame_stream.specs.declared.Handed.{Handed}
use Rattle.frame_stream.specs.Stream.{Stream, begin, Turn, lines_fill, Turns, stream_after, brought_by, handed_by, Behind, OverAt}
use Rattle.frame_stream.specs.Feed.{state_number, RanAll}
use Rattle.frame_stream.proofs.Stream.{SoFar, so_far, stream_is}
use Rattle.frame_closing.specs.Closed.{at_end, last_line, after_line, ClosingIs, Closed}
use Rattle.frame_closing.proofs.Lines.{line_unstarted}

-- TWO FLOORS THAT ARE NOT STARTED close alike
pub closes_alike : (n : ℕ) (F G : Floor) → Unstarted F → Unstarted G → (l : List ℕ) → closing_from limits n F l ≡ closing_from limits n G l
unfolding closing_from
closes_alike zero F G U U' l = refl
closes_alike (suc n) F G U U' l = by (frame_of limits l) refl (λ size. closes_alike n F G U U' (drop size l))
  where
    by : (r : Reading) → frame_of limits l ≡ r → ((size : ℕ) → closing_from limits n F (drop size l) ≡ closing_from limits n G (drop size l))
        → closing_from limits (suc n) F l ≡ closing_from limits (suc n) G l
    by end q h = rw (q, closing_from) (line_unstarted limits F U.fresh ∙ sym (line_unstarted limits G U'.fresh))
    by (refused_frame r) q h = rw (q, closing_from) refl
    by (taken e size) q h =
        let rest : closing_from limits n (step limits F e) (drop size l) ≡ closing_from limits n (step limits G e) (drop size l) =
        ⊎_elim
        (λ s. ap (λ (X : Floor). closing_from limits n X (drop size l)) s)
        (λ s. ap (λ (X : Floor). closing_from limits n X (drop size l)) s.0 ∙ h size ∙ sym (ap (λ (X : Floor). closing_from limits n X (drop size l)) s.1))
        (steps_alike limits F G U U' e) in
        rw (q, closing_from) rest

-- WHERE A FRAME WAS REFUSED there is no such line
none_behind : (m n : ℕ) (F : Floor) (index : ℕ) (l : List ℕ) → length l < m → (run_from whole_floor n F index l).ended ≡ true → closing_from limits m F l ≡ []
unfolding closing_from run_from
none_behind zero n F index l few over = absurd (omega arith)
none_behind (suc m) zero F index l few over = clash false over refl
none_behind (suc m) (suc n) F index l few over = by (frame_of limits l) refl (λ e size. none_behind m n (step limits F e) (suc index) (drop size l)) over
  where
    by : (r : Reading) → frame_of limits l ≡ r
        → ((e : Event) (size : ℕ) → length (drop size l) < m → (run_from whole_floor n (step limits F e) (suc index) (drop size l)).ended ≡ true → closing_from limits m (step limits F e) (drop size l) ≡ [])
        → (run_from whole_floor (suc n) F index l).ended ≡ true → closing_from limits (suc m) F l ≡ []
    by end q h over = let z : ◌≡◌ {A = Bool} false true = rw (q, run_from) at over in clash false z refl
    by (refused_frame r) q h over = rw (q, closing_from) refl
    by (taken e size) q h over =
        let inside = taken_front l e size q in
        let z = length-drop size l in
        let ended : (run_from whole_floor n (step limits F e) (suc index) (drop size l)).ended ≡ true = rw (q, run_from) at over in
        rw (q, closing_from) (h e size (omega arith) ended)

-- AT THE END OF THE OCTETS it is that of the floor that the frames left
line_behind : (m n : ℕ) (F : Floor) (index : ℕ) (l : List ℕ) → length l < m → (run_from whole_floor n F index l).count ≡ n → (run_from whole_floor n F index l).ended ≡ false
    → read_at limits l (run_from whole_floor n F index l).octets ≡ end → closing_from limits m F l ≡ closing_line limits (run_from whole_floor n F index l).floor
unfolding closing_from run_from read_at
line_behind zero n F index l few all goes last = absurd (omega arith)
line_behind (suc m) zero F index l few all goes last = rw (last, closing_from) refl
line_behind (suc m) (suc n) F index l few all goes last =
    by (frame_of limits l) refl (λ e size. line_behind m n (step limits F e) (suc index) (drop size l)) all goes last
  where
    by : (r : Reading) → frame_of limits l ≡ r
        → ((e : Event) (size : ℕ) → length (drop size l) < m → (run_from whole_floor n (step limits F e) (suc index) (drop size l)).count ≡ n → (run_from whole_floor n (step limits F e) (suc index) (drop size l)).ended ≡ false
        → frame_of limits (drop (run_from whole_floor n (step limits F e) (suc index) (drop size l)).octets (drop size l)) ≡ end
        → closing_from limits m (step limits F e) (drop size l) ≡ closing_line limits (run_from whole_floor n (step limits F e) (suc index) (drop size l)).floor)
        → (run_from whole_floor (suc n) F index l).count ≡ suc n → (run_from whole_floor (suc n) F index l).ended ≡ false → frame_of limits (drop (run_from whole_floor (suc n) F index l).octets l) ≡ end
        → closing_from limits (suc m) F l ≡ closing_line limits (run_from whole_floor (suc n) F index l).floor
    by end q h all goes last = absurd (let z : 0 ≡ suc n = rw (q, run_from) at all in omega arith)
    by (refused_frame r) q h all goes last = absurd (let z : ◌≡◌ {A = Bool} true false = rw (q, run_from) at goes in clash true refl z)
    by (taken e size) q h all goes last =
        let R = run_from whole_floor n (step limits F e) (suc index) (drop size l) in
        let inside = taken_front l e size q in
        let z = length-drop size l in
        let count : suc R.count ≡ suc n = rw (q, run_from) at all in
        let on : R.ended ≡ false = rw (q, run_from) at goes in
        let at_end_lem : frame_of limits (drop (size + R.octets) l) ≡ end = rw (q, run_from) at last in
        rw (q, closing_from, run_from) (h e size (omega arith) (omega arith) on (ap (frame_of limits) (drop-drop R.octets size l) ∙ at_end_lem))

-- a frame that ended the run is there, and refused
refused_there : (n : ℕ) (F : Floor) (index : ℕ) (l : List ℕ) → (run_from whole_floor n F index l).ended ≡ true → read_at limits l (run_from whole_floor n F index l).octets ≡ end → ⊥
unfolding run_from read_at
refused_there zero F index l over last = clash false over refl
refused_there (suc n) F index l over last = by (frame_of limits l) refl (λ e size. refused_there n (step limits F e) (suc index) (drop size l)) over last
  where
    by : (r : Reading) → frame_of limits l ≡ r
        → ((e : Event) (size : ℕ) → (run_from whole_floor n (step limits F e) (suc index) (drop size l)).ended ≡ true
        → frame_of limits (drop (run_from whole_floor n (step limits F e) (suc index) (drop size l)).octets (drop size l)) ≡ end → ⊥)
        → (run_from whole_floor (suc n) F index l).ended ≡ true → frame_of limits (drop (run_from whole_floor (suc n) F index l).octets l) ≡ end → ⊥
    by end q h over last = let z : ◌≡◌ {A = Bool} false true = rw (q, run_from) at over in clash false z refl
    by (refused_frame r) q h over last =
        let there : frame_of limits l ≡ end = rw (q, run_from) at last in
        let z : ◌≡◌ {A = ℕ} 0 1 = cc (sym q ∙ there) in
        omega arith
    by (taken e size) q h over last =
        let R = run_from whole_floor n (step limits F e) (suc index) (drop size l) in
        let ended : R.ended ≡ true = rw (q, run_from) at over in
        let at_end_lem : frame_of limits (drop (size + R.octets) l) ≡ end = rw (q, run_from) at last in
        h e size ended (ap (frame_of limits) (drop-drop R.octets size l) ∙ at_end_lem)

-- with an octet left there is a frame, or one that is refused
some_frame : (x : ℕ) (l : List ℕ) → frame_of limits (x ∷ l) ≡ end → ⊥
unfolding frame_of
some_frame x l =
    on_cond (λ (r : Reading). r ≡ end → ⊥) (eqb (frame_refusal limits (x ∷ l)) 0)
    (λ _ e. let y : ◌≡◌ {A = ℕ} 0 1 = cc e in omega arith)
    (λ _ e. let y : ◌≡◌ {A = ℕ} 0 1 = cc e in omega arith)

-- with none left it is the end
no_frame_lem : (last : Bool) → OverAt last (frame_of limits []) → last ≡ true
unfolding frame_of
no_frame_lem last over = over

at_end_lem : frame_of limits [] ≡ end
unfolding frame_of
at_end_lem = refl

-- THE CLAIM, over any list of turns from a floor that is not started
module _ (F : Floor) (U : Unstarted F) (ts : List Turn) (made : Turns (begin whole_floor F) ts) where
  abbrev S : Stream
  S = stream_after (begin whole_floor F) ts

  -- from F as from the written floor
  closing_whole : (l : List ℕ) → printed_closing limits l ≡ printed_run limits l ++ closing_from limits (suc (length l)) F l
  unfolding printed_closing
  closing_whole l =
      ap (λ (x : List ℕ). printed_run limits l ++ x) (closes_alike (suc (length l)) unstarted F (record { fresh = refl; lengths = refl }) U l)

  module _ (over : S.state ≡ 2) (later : List ℕ) (b : Behind S later) where
    abbrev W : List ℕ
    W = brought_by ts ++ later

    s : SoFar whole_floor F W (handed_by (begin whole_floor F) ts) S later
    s = so_far lines_fill whole_floor F ts made later b

    -- nothing is left: the input has ended, and no frame was refused
    none_left : S.left ≡ [] → closing_from limits (suc (length W)) F W ≡ closing_line limits S.floor
    unfolding read_at
    none_left e =
        let last : S.last ≡ true = no_frame_lem S.last (subst (λ (l : List ℕ). OverAt S.last (frame_of limits l)) e ((stream_is whole_floor F U ts made).over over)) in
        let rest : drop (run_from whole_floor S.index F 0 W).octets W ≡ [] = s.rest ∙ ap₂ (λ (x y : List ℕ). x ++ y) e (b last) in
        let there : read_at limits W (run_from whole_floor S.index F 0 W).octets ≡ end = ap (frame_of limits) rest ∙ at_end_lem in
        let goes : (run_from whole_floor S.index F 0 W).ended ≡ false = by_test (run_from whole_floor S.index F 0 W).ended (λ t. absurd (refused_there S.index F 0 W t there)) (λ t. t) in
        line_behind (suc (length W)) S.index F 0 W (omega arith) s.count goes there ∙ ap (closing_line limits) s.floor

    -- something is: a frame was refused
    some_left : (x : ℕ) (l : List ℕ) → S.left ≡ x ∷ l → closing_from limits (suc (length W)) F W ≡ []
    unfolding read_at
    some_left x l e =
        ⊎_elim
        (λ ended. none_behind (suc (length W)) S.index F 0 W (omega arith) ended)
        (λ last. absurd (some_frame x (l ++ later) (sym (ap (frame_of limits) (s.rest ∙ ap (λ (y : List ℕ). y ++ later) e)) ∙ last)))
        (s.over over)

    line_is : (left : List ℕ) → S.left ≡ left → closing_from limits (suc (length W)) F W ≡ cond (eqb (length left) 0) (closing_line limits S.floor) []
    line_is [] e = none_left e
    line_is (x ∷ l) e = some_left x l e ∙ ap (λ (t : Bool). cond t (closing_line limits S.floor) []) (sym (ne_eqb (length (x ∷ l)) 0 (λ z. omega arith)))

  -- what is handed on together
  pub closing_is : (run : Ending) → state_number run.state ≡ S.state → run.left ≡ length S.left → ClosingIs F ts (last_line run S.floor)
  closing_is run state left over later b =
      let l = brought_by ts ++ later in
      let last : eqb (length S.left) 0 ≡ at_end run = sym (ap₂ (λ (x : Bool) (n : ℕ). x && eqb n 0) (eq-eqb (state_number run.state) 2 (state ∙ over)) left) in
      closing_whole l
      ∙ ap₂ (λ (x y : List ℕ). x ++ y) ((stream_is whole_floor F U ts made).whole over later b)
      (line_is over later b S.left refl ∙ ap (λ (t : Bool). cond t (closing_line limits S.floor) []) last)

-- and what the code comes to: a run over lent parts, and a line behind it
pub closed : (S C M W T O : List ℕ) (L' : Lent) (run r : Ending) (h : Handed) (line : List ℕ) → Unstarted (floor_in (lent whole_floor S C M W T O))
    → RanAll (lent whole_floor S C M W T O) L' run
    → (take h.size line ≡ last_line run (floor_in L')) × (h.size ≤ length line) → r ≡ after_line run h → Closed r
closed S C M W T O L' run r h line U ran put e =
    let F = floor_in (lent whole_floor S C M W T O) in
    let ts = ran.finished.turns in
    let X = (stream_after (begin whole_floor F) ts).floor in
    let octets : take h.size line ≡ last_line run X = put.0 ∙ ap (last_line run) ran.floor in
    record {
      run = run;
      streamed = record { floor = F; fresh = U; finished = ran.finished; is = stream_is whole_floor F U ts ran.finished.made };
      line = last_line run X;
      last = refl;
      handed = h;
      size = sym (length-take-le h.size line put.1) ∙ ap (λ (l : List ℕ). length l) octets;
      ending = e;
      is = closing_is F U ts ran.finished.made run ran.finished.state ran.finished.left;
    }
