-- Numbers of a width: every number that a floor or a record carries.
use mathlib.Core.Path.{subst, sym}
use mathlib.Core.Bool.{◌&&◌}
use mathlib.Core.List.{List, [], ◌∷◌}
use Prim.Native.Nat.{◌<◌, suc, zero, ℕ}
use native.Mathlib.Omega.{arith}
use lib.Dec.{eqb}
use Rattle.protocol.specs.Folds.{list_of}
use Rattle.protocol.specs.Floor.{Floor, Limits, Place, Record, ack_list, at, delete, deregister, leaving, multicast, outside, register, travelling}
use Rattle.protocol.specs.Handoff.{row_of}
use Rattle.protocol.specs.Claims.{All}
use Rattle.protocol.specs.Form.{HandoffRecord, deregistering, handoff_of, handoffs, registering}
use Rattle.protocol.specs.Ranges.{EachBelow, InRange, NumbersBelow, RecordBelow, RecordInRange}
use Rattle.protocol.proofs.Tests.{by_test, eqb_self}
use Rattle.protocol.proofs.Counting.{all_map2}
use Rattle.protocol.proofs.FormFacts.{FormFacts}

-- the rows of the registers among hand-off records
abbrev Rows : (List ℕ → Type 0) → List HandoffRecord → Type 0
Rows P [] = Unit {0}
Rows P (deregistering ∷ l) = Rows P l
Rows P (registering row ∷ l) = P row × Rows P l

abbrev RowOf : (List ℕ → Type 0) → Record → Type 0
RowOf P (multicast n) = Unit {0}
RowOf P (ack_list n x) = Unit {0}
RowOf P (delete n) = Unit {0}
RowOf P (deregister c) = Unit {0}
RowOf P (register c row) = P row

-- what holds of the rows in the hand-off records of every cart holds of those on the line
rows_of_lem : (P : List ℕ → Type 0) (l : List Record) → ((c : ℕ) → Rows P (handoffs c l)) → All (RowOf P) l
rows_of_lem P [] h = tt
rows_of_lem P (multicast n ∷ l) h = (tt, rows_of_lem P l h)
rows_of_lem P (ack_list n x ∷ l) h = (tt, rows_of_lem P l h)
rows_of_lem P (delete n ∷ l) h = (tt, rows_of_lem P l h)
rows_of_lem P (deregister d ∷ l) h = (tt, rows_of_lem P l (λ c. let z = h c in by_test (eqb d c) (λ e. rw e at z) (λ e. rw e at z)))
rows_of_lem P (register d row ∷ l) h =
    let y = h d in
    let y' : P row × Rows P (handoffs d l) = rw (eqb_self d) at y in
    (y'.0, rows_of_lem P l (λ c. let z = h c in by_test (eqb d c) (λ e. let w : P row × Rows P (handoffs c l) = rw e at z in w.1) (λ e. rw e at z)))

rows_handed : (P : List ℕ → Type 0) (p : Place) (i j : ℕ) (row : List ℕ) → P row → Rows P (handoff_of p i j row)
rows_handed P outside i j row h = tt
rows_handed P (at s) i j row h = tt
rows_handed P (leaving s u) i j row h = by_test (eqb u i && eqb s j) (λ e. rw e tt) (λ e. rw e tt)
rows_handed P (travelling s u) i j row h = by_test (eqb s i && eqb u j) (λ e. rw e (h, tt)) (λ e. rw e tt)

each_below : (b n : ℕ) (f : ℕ → ℕ) → ((k : ℕ) → f k < b) → EachBelow b (list_of n f)
unfolding list_of
each_below b zero f h = tt
each_below b (suc n) f h = (h 0, each_below b n (λ k. f (suc k)) (λ k. h (suc k)))

below_record : (b last k : ℕ) → last < b → (r : Record) → RecordInRange last k r → RowOf (EachBelow b) r → RecordBelow b r
below_record b last k l (multicast n) h g = omega arith
below_record b last k l (ack_list n x) h g = let z = h.0 in omega arith
below_record b last k l (delete n) h g = omega arith
below_record b last k l (deregister c) h g = tt
below_record b last k l (register c row) h g = g

-- on a floor whose numbers are in range
pub numbers_below : (b : ℕ) (M : Limits) (F : Floor) → suc M.last < b → FormFacts M F → InRange M F → NumbersBelow b M F
numbers_below b M F l X R =
    record {
      sent = λ s. let z = R.sent s in omega arith;
      expected = λ t s lt. let z = R.expected t s lt in omega arith;
      next = next;
      number = λ m lm w. let z = R.number m lm w in omega arith;
      records = λ i j li lj. all_map2 (F.lines i j) (below_record b M.last F.carts (omega arith)) (R.records i j)
          (rows_of_lem (EachBelow b) (F.lines i j) (λ c. subst (λ (x : List HandoffRecord). Rows (EachBelow b) x) (sym (X.handoffs_right c i j))
          (rows_handed (EachBelow b) (F.place c) i j (row_of M (F.next c)) (each_below b M.columns (F.next c) (next c)))));
    }
  where
    next : (c s : ℕ) → F.next c s < b
    next c s = let z = R.next c s in omega arith
