-- ONE FRAME MORE: the run over so many frames and one is that over so many, and then the frame behind them.
use mathlib.Core.Path.{◌≡◌, refl, sym, ap, ap₂, ◌∙◌}
use mathlib.Core.Bool.{Bool, true, false, cond}
use mathlib.Core.List.{List, ◌++◌, append-nil, append_assoc}
use Prim.Native.Nat.{ℕ, zero, suc, ◌+◌}
use native.Mathlib.Omega.{arith}
use lib.ListN.{drop}
use lib.Seq.{drop-drop}
use Rattle.protocol.specs.Floor.{Product, Floor, limits, limits_of}
use Rattle.protocol.specs.Events.{Event, refused}
use Rattle.protocol.specs.Step.{step, answer}
use Rattle.protocol.specs.Frames.{Reading, event_of, fields_refusal, frame_refusal, end, refused_frame, taken, frame_of, read_at}
use Rattle.protocol.specs.Printed.{line_of, lines_from}
use Rattle.frame_run.specs.Piece.{Ran, still, run_from}

-- a frame is the same in every product
pub same_frame : (P : Product) (l : List ℕ) → frame_of (limits_of P) l ≡ frame_of limits l
unfolding frame_of frame_refusal fields_refusal event_of
same_frame P l = refl

-- what the run printed is what the written run prints
pub prints : (P : Product) (n : ℕ) (F : Floor) (index : ℕ) (l : List ℕ) → (run_from P n F index l).printed ≡ lines_from (limits_of P) n F index l
unfolding run_from lines_from
prints P zero F index l = refl
prints P (suc n) F index l = by (frame_of limits l) refl (λ e size. prints P n (step (limits_of P) F e) (suc index) (drop size l))
  where
    by : (r : Reading) → frame_of limits l ≡ r → ((e : Event) (size : ℕ) → (run_from P n (step (limits_of P) F e) (suc index) (drop size l)).printed ≡ lines_from (limits_of P) n (step (limits_of P) F e) (suc index) (drop size l))
        → (run_from P (suc n) F index l).printed ≡ lines_from (limits_of P) (suc n) F index l
    by end q h = rw (q, same_frame P l ∙ q, run_from, lines_from) refl
    by (refused_frame r) q h = rw (q, same_frame P l ∙ q, run_from, lines_from) refl
    by (taken e size) q h = rw (q, same_frame P l ∙ q, run_from, lines_from) (ap (λ (k : List ℕ). line_of index (answer (limits_of P) F e) ++ k) (h e size))

-- a frame behind what was run, if the run has not ended
abbrev pub more : Product → Ran → ℕ → Reading → Ran
more P R index end = R
more P R index (refused_frame r) = record { count = suc R.count; printed = R.printed ++ line_of index (refused r); floor = R.floor; octets = R.octets; ended = true }
more P R index (taken e size) =
    record { count = suc R.count; printed = R.printed ++ line_of index (answer (limits_of P) R.floor e); floor = step (limits_of P) R.floor e; octets = R.octets + size; ended = false }

abbrev pub onward : Product → Ran → ℕ → Reading → Ran
onward P R index r = cond R.ended R (more P R index r)

-- a run with a frame before it
abbrev pub behind : List ℕ → ℕ → Ran → Ran
behind line size R = record { count = suc R.count; printed = line ++ R.printed; floor = R.floor; octets = size + R.octets; ended = R.ended }

behind_more : (P : Product) (line : List ℕ) (size : ℕ) (R : Ran) (index : ℕ) (r : Reading) → behind line size (onward P R index r) ≡ onward P (behind line size R) index r
behind_more P line size R index r = by_ended R.ended refl r
  where
    by_ended : (b : Bool) → R.ended ≡ b → (r : Reading) → behind line size (onward P R index r) ≡ onward P (behind line size R) index r
    by_ended true q r = rw q refl
    by_ended false q end = rw q refl
    by_ended false q (refused_frame x) =
        rw q (λ i. record { count = suc (suc R.count); printed = sym (append_assoc line R.printed (line_of index (refused x))) i; floor = R.floor; octets = size + R.octets; ended = true })
    by_ended false q (taken e k) =
        rw q (let sums : size + (R.octets + k) ≡ size + R.octets + k = omega arith in
        λ i. record { count = suc (suc R.count); printed = sym (append_assoc line R.printed (line_of index (answer (limits_of P) R.floor e))) i; floor = step (limits_of P) R.floor e; octets = sums i; ended = false })

pub one_more : (P : Product) (n : ℕ) (F : Floor) (index : ℕ) (l : List ℕ)
    → run_from P (suc n) F index l ≡ onward P (run_from P n F index l) (index + n) (read_at limits l (run_from P n F index l).octets)
unfolding run_from read_at
one_more P zero F index l = by (frame_of limits l) refl
  where
    plus : index + 0 ≡ index
    plus = omega arith

    by : (r : Reading) → frame_of limits l ≡ r → run_from P 1 F index l ≡ onward P (still F) (index + 0) (frame_of limits l)
    by end q = rw (q, run_from) refl
    by (refused_frame r) q = rw (q, plus, run_from) refl
    by (taken e size) q = rw (q, plus, run_from) (let sums : size + 0 ≡ 0 + size = omega arith in λ i. record { count = 1; printed = append-nil (line_of index (answer (limits_of P) F e)) i; floor = step (limits_of P) F e; octets = sums i; ended = false })
one_more P (suc n) F index l = by (frame_of limits l) refl (λ e size. one_more P n (step (limits_of P) F e) (suc index) (drop size l))
  where
    by : (r : Reading) → frame_of limits l ≡ r
        → ((e : Event) (size : ℕ) → run_from P (suc n) (step (limits_of P) F e) (suc index) (drop size l)
        ≡ onward P (run_from P n (step (limits_of P) F e) (suc index) (drop size l)) (suc index + n) (read_at limits (drop size l) (run_from P n (step (limits_of P) F e) (suc index) (drop size l)).octets))
        → run_from P (suc (suc n)) F index l ≡ onward P (run_from P (suc n) F index l) (index + suc n) (read_at limits l (run_from P (suc n) F index l).octets)
    by end q h = rw (q, run_from) (sym (ap (λ (r : Reading). more P (still F) (index + suc n) r) q))
    by (refused_frame r) q h = rw (q, run_from) refl
    by (taken e size) q h =
        let F' = step (limits_of P) F e in
        let l' = drop size l in
        let R = run_from P n F' (suc index) l' in
        let line = line_of index (answer (limits_of P) F e) in
        let sums : suc index + n ≡ index + suc n = omega arith in
        rw (q, run_from)
        (ap (λ (X : Ran). behind line size X) (h e size)
        ∙ behind_more P line size R (suc index + n) (read_at limits l' R.octets)
        ∙ ap₂ (λ (k : ℕ) (m : List ℕ). onward P (behind line size R) k (frame_of limits m)) sums (drop-drop R.octets size l))
