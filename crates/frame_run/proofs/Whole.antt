-- A PIECE BOUNDARY IS NOTHING: what was run of a piece is what is run of the whole input, and the rest follows from there.
use mathlib.Core.Path.{◌≡◌, refl, sym, ap, ap₂, ◌∙◌, subst}
use mathlib.Core.Bool.{Bool, true, false}
use mathlib.Core.List.{List, ◌++◌, append_assoc}
use Prim.Native.Nat.{ℕ, zero, suc, ◌+◌, ◌-◌, ◌≤◌, ◌<◌}
use native.Mathlib.Omega.{arith}
use lib.ListN.{length, drop, length-drop}
use lib.Seq.{drop-append-le, drop-drop}
use borrow.Author.Tests.{eqb-true}
use Rattle.protocol.specs.Floor.{Product, Floor, limits, limits_of}
use Rattle.protocol.specs.Events.{Event}
use Rattle.protocol.specs.Step.{step, answer}
use Rattle.protocol.specs.Frames.{Fields, Reading, fields_of, text_length, fields_refusal, end, refused_frame, taken, frame_of, read_at}
use Rattle.protocol.specs.Printed.{line_of, lines_from}
use Rattle.protocol.proofs.Tests.{by_lt, by_eq, clash}
use Rattle.frames.specs.Decoded.{longest_frame}
use Rattle.frames.proofs.Laws.{nothing_left, cut_frame, refused_frame_lem, taken_frame, text_at_most, text_right, text_cut}
use Rattle.frames.proofs.Stands.{frame_stands}
use Rattle.frames.proofs.Values.{taken_inside}
use Rattle.view.specs.View.{Lent, floor_in}
use Rattle.frame_run.specs.declared.Progress.{Progress}
use Rattle.frame_run.specs.Stops.{stop_number}
use Rattle.frame_run.specs.Piece.{Ran, still, run_from}
use Rattle.frame_run.specs.Went.{NoneWhole, EndsRun, Went}
use Rattle.frame_run.proofs.Pieces.{prints, behind}

-- a frame that is taken has sixteen octets at least, and they are there
pub taken_front : (l : List ℕ) (e : Event) (size : ℕ) → frame_of limits l ≡ taken e size → (16 ≤ size) × (size ≤ length l)
unfolding read_at
taken_front l e size q =
    let inside = taken_inside l 0 e size q in (
      by_lt (length l) 1
          (λ h. absurd (let z : ◌≡◌ {A = ℕ} 0 1 = cc (nothing_left l 0 (omega arith)) in omega arith))
          (λ h. by_lt (length l) 16
          (λ s. absurd (let z : ◌≡◌ {A = ℕ} 0 1 = cc (cut_frame l 0 (omega arith) (omega arith)) in omega arith))
          (λ s. by_eq (fields_refusal limits (fields_of l) (length l - 0 - 16)) 0
          (λ r. let w : size ≡ 16 + text_length (fields_of l) = cc (taken_frame l 0 (fields_of l) (omega arith) refl (sym r)) in omega arith)
          (λ r. absurd (let z : ◌≡◌ {A = ℕ} 0 1 = cc (refused_frame_lem l 0 (fields_of l) (omega arith) refl _ refl r) in omega arith)))),
      (let y = inside.0 in omega arith),
    )

-- THE FRAMES of a piece, all of them there and none cut, are as many frames of the whole
pub stands : (P : Product) (n : ℕ) (F : Floor) (index : ℕ) (p q : List ℕ) → (run_from P n F index p).count ≡ n
    → ((run_from P n F index p).ended ≡ true → read_at limits p (run_from P n F index p).octets ≡ refused_frame 1 → ⊥) → run_from P n F index (p ++ q) ≡ run_from P n F index p
unfolding run_from read_at
stands P zero F index p q all uncut = refl
stands P (suc n) F index p q all uncut =
    by (frame_of limits p) refl (λ e size. stands P n (step (limits_of P) F e) (suc index) (drop size p) q) all uncut
  where
    by : (r : Reading) → frame_of limits p ≡ r
        → ((e : Event) (size : ℕ) → (run_from P n (step (limits_of P) F e) (suc index) (drop size p)).count ≡ n
        → ((run_from P n (step (limits_of P) F e) (suc index) (drop size p)).ended ≡ true
        → read_at limits (drop size p) (run_from P n (step (limits_of P) F e) (suc index) (drop size p)).octets ≡ refused_frame 1 → ⊥)
        → run_from P n (step (limits_of P) F e) (suc index) (drop size p ++ q) ≡ run_from P n (step (limits_of P) F e) (suc index) (drop size p))
        → (run_from P (suc n) F index p).count ≡ suc n
        → ((run_from P (suc n) F index p).ended ≡ true → read_at limits p (run_from P (suc n) F index p).octets ≡ refused_frame 1 → ⊥)
        → run_from P (suc n) F index (p ++ q) ≡ run_from P (suc n) F index p
    by end e h all uncut = absurd (let z : 0 ≡ suc n = rw (e, run_from) at all in omega arith)
    by (refused_frame r) e h all uncut =
        let one : (r ≡ 1 → ⊥) = λ z. (rw (e, run_from) at uncut) refl (e ∙ ap refused_frame z) in
        let same : frame_of limits (p ++ q) ≡ refused_frame r =
        frame_stands p q (λ z. (let y : ◌≡◌ {A = ℕ} 0 1 = cc (sym e ∙ z) in omega arith)) (λ z. one (let y : refused_frame r ≡ refused_frame 1 = sym e ∙ z in cc)) ∙ e in
        rw (same, e, run_from) refl
    by (taken ev size) e h all uncut =
        let same : frame_of limits (p ++ q) ≡ taken ev size =
        frame_stands p q (λ z. (let y : ◌≡◌ {A = ℕ} 0 1 = cc (sym e ∙ z) in omega arith)) (λ z. (let y : ◌≡◌ {A = ℕ} 0 1 = cc (sym e ∙ z) in omega arith)) ∙ e in
        let inside = taken_inside p 0 ev size e in
        let apart : drop size (p ++ q) ≡ drop size p ++ q = drop-append-le size p q (let y = inside.0 in omega arith) in
        let count : suc (run_from P n (step (limits_of P) F ev) (suc index) (drop size p)).count ≡ suc n = rw (e, run_from) at all in
        let later = rw (e, run_from) at uncut in
        let rest = ap (run_from P n (step (limits_of P) F ev) (suc index)) apart ∙ h ev size (omega arith)
        (λ ended cut. later ended (ap (frame_of limits) (sym (drop-drop (run_from P n (step (limits_of P) F ev) (suc index) (drop size p)).octets size p)) ∙ cut)) in
        rw (same, e, run_from)
        (ap (λ (X : Ran). record { count = suc X.count; printed = line_of index (answer (limits_of P) F ev) ++ X.printed; floor = X.floor; octets = size + X.octets; ended = X.ended }) rest)

-- THE PIECE OF A WHOLE: where more input comes, what was run of the piece is as many frames of all of it
pub piece_of_whole : (input : List ℕ) (index : ℕ) (L L' : Lent) (out out' : List ℕ) (p : Progress) → Went input index false L L' out out' p
    → (later : List ℕ) → run_from L.product p.frames (floor_in L) index (input ++ later) ≡ run_from L.product p.frames (floor_in L) index input
piece_of_whole input index L L' out out' p w later =
    stands L.product p.frames (floor_in L) index input later (sym w.run.counted)
    (λ ended cut.
    let over = w.ends (eqb-true (stop_number p.state) 2 (sym w.run.ended ∙ ended)) in
    let there : read_at limits input p.read ≡ refused_frame 1 = ap (read_at limits input) w.run.read ∙ cut in
    let never : ◌≡◌ {A = Bool} false true = subst (λ (x : Reading). EndsRun false x) there over refl in
    clash false never refl)

-- a run, and one behind it
abbrev pub joined : Ran → Ran → Ran
joined R X = record { count = R.count + X.count; printed = R.printed ++ X.printed; floor = X.floor; octets = R.octets + X.octets; ended = X.ended }

joined_still : (F : Floor) (X : Ran) → X ≡ joined (still F) X
joined_still F X =
    let counts : X.count ≡ 0 + X.count = omega arith in
    let sizes : X.octets ≡ 0 + X.octets = omega arith in
    λ i. record { count = counts i; printed = X.printed; floor = X.floor; octets = sizes i; ended = X.ended }

behind_joined : (line : List ℕ) (size : ℕ) (R X : Ran) → behind line size (joined R X) ≡ joined (behind line size R) X
behind_joined line size R X =
    let counts : suc (R.count + X.count) ≡ suc R.count + X.count = omega arith in
    let sizes : size + (R.octets + X.octets) ≡ size + R.octets + X.octets = omega arith in
    λ i. record { count = counts i; printed = sym (append_assoc line R.printed X.printed) i; floor = X.floor; octets = sizes i; ended = X.ended }

-- AND THE REST FOLLOWS: the run of n + k frames is the run of n, and then that of k over the octets behind them
pub runs_go_on : (P : Product) (n k : ℕ) (F : Floor) (index : ℕ) (l : List ℕ) → (run_from P n F index l).count ≡ n → (run_from P n F index l).ended ≡ false
    → run_from P (n + k) F index l ≡ joined (run_from P n F index l) (run_from P k (run_from P n F index l).floor (index + n) (drop (run_from P n F index l).octets l))
unfolding run_from
runs_go_on P zero k F index l all goes =
    let none : 0 + k ≡ k = omega arith in
    let plus : index ≡ index + 0 = omega arith in
    ap₂ (λ (m i : ℕ). run_from P m F i l) none plus ∙ joined_still F (run_from P k F (index + 0) l)
runs_go_on P (suc n) k F index l all goes =
    by (frame_of limits l) refl (λ e size. runs_go_on P n k (step (limits_of P) F e) (suc index) (drop size l)) all goes
  where
    by : (r : Reading) → frame_of limits l ≡ r
        → ((e : Event) (size : ℕ) → (run_from P n (step (limits_of P) F e) (suc index) (drop size l)).count ≡ n → (run_from P n (step (limits_of P) F e) (suc index) (drop size l)).ended ≡ false
        → run_from P (n + k) (step (limits_of P) F e) (suc index) (drop size l)
        ≡ joined (run_from P n (step (limits_of P) F e) (suc index) (drop size l))
        (run_from P k (run_from P n (step (limits_of P) F e) (suc index) (drop size l)).floor (suc index + n) (drop (run_from P n (step (limits_of P) F e) (suc index) (drop size l)).octets (drop size l))))
        → (run_from P (suc n) F index l).count ≡ suc n → (run_from P (suc n) F index l).ended ≡ false
        → run_from P (suc n + k) F index l
        ≡ joined (run_from P (suc n) F index l) (run_from P k (run_from P (suc n) F index l).floor (index + suc n) (drop (run_from P (suc n) F index l).octets l))
    by end e h all goes = absurd (let z : 0 ≡ suc n = rw (e, run_from) at all in omega arith)
    by (refused_frame r) e h all goes = absurd (let z : ◌≡◌ {A = Bool} true false = rw (e, run_from) at goes in clash true refl z)
    by (taken ev size) e h all goes =
        let R = run_from P n (step (limits_of P) F ev) (suc index) (drop size l) in
        let count : suc R.count ≡ suc n = rw (e, run_from) at all in
        let on : R.ended ≡ false = rw (e, run_from) at goes in
        let line = line_of index (answer (limits_of P) F ev) in
        let one_more : suc n + k ≡ suc (n + k) = omega arith in
        let sums : suc index + n ≡ index + suc n = omega arith in
        let rest = h ev size (omega arith) on in
        ap (λ (m : ℕ). run_from P m F index l) one_more
        ∙ rw (e, run_from)
        (ap (behind line size) rest
        ∙ behind_joined line size R (run_from P k R.floor (suc index + n) (drop R.octets (drop size l)))
        ∙ ap₂ (λ (i : ℕ) (m : List ℕ). joined (behind line size R) (run_from P k R.floor i m)) sums (drop-drop R.octets size l))

-- so the printed run is what n frames print, and then the printed run of the octets behind them
pub lines_go_on : (P : Product) (n k : ℕ) (F : Floor) (index : ℕ) (l : List ℕ) → (run_from P n F index l).count ≡ n → (run_from P n F index l).ended ≡ false
    → lines_from (limits_of P) (n + k) F index l ≡ (run_from P n F index l).printed ++ lines_from (limits_of P) k (run_from P n F index l).floor (index + n) (drop (run_from P n F index l).octets l)
lines_go_on P n k F index l all goes =
    let R = run_from P n F index l in
    sym (prints P (n + k) F index l)
    ∙ ap (λ (X : Ran). X.printed) (runs_go_on P n k F index l all goes)
    ∙ ap (λ (x : List ℕ). R.printed ++ x) (prints P k R.floor (index + n) (drop R.octets l))

-- behind a frame that ended the run nothing is run
pub runs_end : (P : Product) (n k : ℕ) (F : Floor) (index : ℕ) (l : List ℕ) → (run_from P n F index l).ended ≡ true → run_from P (n + k) F index l ≡ run_from P n F index l
unfolding run_from
runs_end P zero k F index l over = clash false over refl
runs_end P (suc n) k F index l over = by (frame_of limits l) refl (λ e size. runs_end P n k (step (limits_of P) F e) (suc index) (drop size l)) over
  where
    one_more : suc n + k ≡ suc (n + k)
    one_more = omega arith

    by : (r : Reading) → frame_of limits l ≡ r
        → ((e : Event) (size : ℕ) → (run_from P n (step (limits_of P) F e) (suc index) (drop size l)).ended ≡ true
        → run_from P (n + k) (step (limits_of P) F e) (suc index) (drop size l) ≡ run_from P n (step (limits_of P) F e) (suc index) (drop size l))
        → (run_from P (suc n) F index l).ended ≡ true → run_from P (suc n + k) F index l ≡ run_from P (suc n) F index l
    by end e h over = let z : ◌≡◌ {A = Bool} false true = rw (e, run_from) at over in clash false z refl
    by (refused_frame r) e h over = ap (λ (m : ℕ). run_from P m F index l) one_more ∙ rw (e, run_from) refl
    by (taken ev size) e h over =
        let ended : (run_from P n (step (limits_of P) F ev) (suc index) (drop size l)).ended ≡ true = rw (e, run_from) at over in
        ap (λ (m : ℕ). run_from P m F index l) one_more ∙ rw (e, run_from) (ap (behind (line_of index (answer (limits_of P) F ev)) size) (h ev size ended))

-- no more octets are run than there are
pub octets_inside : (P : Product) (n : ℕ) (F : Floor) (index : ℕ) (l : List ℕ) → (run_from P n F index l).octets ≤ length l
unfolding run_from
octets_inside P zero F index l = omega arith
octets_inside P (suc n) F index l = by (frame_of limits l) refl (λ e size. octets_inside P n (step (limits_of P) F e) (suc index) (drop size l))
  where
    by : (r : Reading) → frame_of limits l ≡ r → ((e : Event) (size : ℕ) → (run_from P n (step (limits_of P) F e) (suc index) (drop size l)).octets ≤ length (drop size l))
        → (run_from P (suc n) F index l).octets ≤ length l
    by end e h = rw (e, run_from) (omega arith)
    by (refused_frame r) e h = rw (e, run_from) (omega arith)
    by (taken ev size) e h =
        let inside = taken_front l ev size e in
        let rest = h ev size in
        let z = length-drop size l in
        rw (e, run_from) (omega arith)

-- with more turns than octets there are enough: every frame has an octet at least
pub turns_enough : (P : Product) (n k : ℕ) (F : Floor) (index : ℕ) (l : List ℕ) → length l < n → run_from P (n + k) F index l ≡ run_from P n F index l
unfolding run_from
turns_enough P zero k F index l few = absurd (omega arith)
turns_enough P (suc n) k F index l few = by (frame_of limits l) refl (λ e size. turns_enough P n k (step (limits_of P) F e) (suc index) (drop size l))
  where
    one_more : suc n + k ≡ suc (n + k)
    one_more = omega arith

    by : (r : Reading) → frame_of limits l ≡ r
        → ((e : Event) (size : ℕ) → length (drop size l) < n → run_from P (n + k) (step (limits_of P) F e) (suc index) (drop size l) ≡ run_from P n (step (limits_of P) F e) (suc index) (drop size l))
        → run_from P (suc n + k) F index l ≡ run_from P (suc n) F index l
    by end e h = ap (λ (m : ℕ). run_from P m F index l) one_more ∙ rw (e, run_from) refl
    by (refused_frame r) e h = ap (λ (m : ℕ). run_from P m F index l) one_more ∙ rw (e, run_from) refl
    by (taken ev size) e h =
        let inside = taken_front l ev size e in
        let z = length-drop size l in
        ap (λ (m : ℕ). run_from P m F index l) one_more ∙ rw (e, run_from) (ap (behind (line_of index (answer (limits_of P) F ev)) size) (h ev size (omega arith)))

-- WHAT IS LESS THAN A WHOLE FRAME
-- it has fewer octets than the longest frame
pub few_left : (last : Bool) (l : List ℕ) (at : ℕ) → NoneWhole last (read_at limits l at) → length l - at < longest_frame
few_left last l at h =
    by_lt at (length l)
    (λ s. by_lt (length l - at) 16 (λ z. omega arith)
    (λ w. by_eq (fields_refusal limits f (length l - at - 16)) 0
    (λ z. absurd (subst (λ (x : Reading). NoneWhole last x) (sym (taken_frame l at f w refl (sym z))) h))
    (λ z.
    let one = (subst (λ (x : Reading). NoneWhole last x) (sym (refused_frame_lem l at f w refl _ refl z)) h).0 in
    let cut = text_cut f (length l - at - 16) one in
    let most = text_at_most f (text_right f (length l - at - 16) (omega arith)) in
    omega arith)))
    (λ s. omega arith)
  where
    f : Fields
    f = fields_of (drop at l)
