-- HOW MANY RECORDS ARE ON THE LINES, and that there is room for those that an event puts there.
use mathlib.Core.Path.{◌≡◌, refl, sym, ap, ◌∙◌}
use mathlib.Core.Bool.{Bool}
use mathlib.Core.List.{List, [], ◌∷◌}
use Prim.Native.Nat.{ℕ, zero, suc, ◌+◌, ◌*◌, ◌≤◌}
use native.Mathlib.Omega.{arith}
use lib.ListN.{length, length-append, length-map}
use Rattle.protocol.specs.Folds.{sum}
use Rattle.protocol.specs.Floor.{Record, put, on_the_lines}
use Rattle.protocol.specs.Form.{bit}
use Rattle.protocol.proofs.Tests.{by_test}
use Rattle.protocol.proofs.Counting.{sum_ext, sum_add, sum_nil}
use Rattle.lines.specs.Lines.{records_on, used, registers_in}
use Rattle.view.specs.Records.{record_in, lines_in}
use Rattle.view.proofs.LinesView.{line_in}

-- LINES IN ROWS OF SIXTEEN
sum_more : (f : ℕ → ℕ) (a k : ℕ) → sum (a + k) f ≡ sum a f + sum k (λ j. f (a + j))
unfolding sum
sum_more f a zero = let z : a + 0 ≡ a = omega arith in let y : sum (a + 0) f ≡ sum a f = ap (λ (x : ℕ). sum x f) z in omega arith
sum_more f a (suc k) = let w : a + suc k ≡ suc (a + k) = omega arith in let y : sum (a + suc k) f ≡ sum (suc (a + k)) f = ap (λ (x : ℕ). sum x f) w in let z = sum_more f a k in omega arith

sum_rows : (f : ℕ → ℕ) (n : ℕ) → sum (n * 16) f ≡ sum n (λ i. sum 16 (λ j. f (i * 16 + j)))
unfolding sum
sum_rows f zero = refl
sum_rows f (suc n) = let z = sum_rows f n in let y = sum_more f (n * 16) 16 in let w : suc n * 16 ≡ n * 16 + 16 = omega arith in let x : sum (suc n * 16) f ≡ sum (n * 16 + 16) f = ap (λ (x : ℕ). sum x f) w in omega arith

-- the records in the pool are those on the lines
pub used_view : (W : List ℕ) → used W ≡ on_the_lines 16 (lines_in W)
unfolding used
used_view W =
    sum_rows (λ k. length (records_on W k)) 16
    ∙ sum_ext 16 (λ i. sum 16 (λ j. length (records_on W (i * 16 + j)))) (λ i. sum 16 (λ j. length (lines_in W i j)))
    (λ i li. sum_ext 16 (λ j. length (records_on W (i * 16 + j))) (λ j. length (lines_in W i j))
    (λ j lj. sym (ap (λ (l : List Record). length l) (line_in W i j li lj) ∙ length-map (records_on W (i * 16 + j)) (record_in (registers_in W)))))

-- A RECORD IS PUT: as many more as lines are picked
put_length : (on : ℕ → ℕ → Bool) (r : Record) (lines : ℕ → ℕ → List Record) (i j : ℕ) → length (put on r lines i j) ≡ length (lines i j) + bit (on i j)
put_length on r lines i j = by_test (on i j) (λ e. rw e (length-append (lines i j) (r ∷ []))) (λ e. rw e (omega arith))

pub put_counts : (n : ℕ) (on : ℕ → ℕ → Bool) (r : Record) (lines : ℕ → ℕ → List Record) → on_the_lines n (put on r lines) ≡ on_the_lines n lines + sum n (λ i. sum n (λ j. bit (on i j)))
put_counts n on r lines =
    sum_ext n (λ i. sum n (λ j. length (put on r lines i j))) (λ i. sum n (λ j. length (lines i j)) + sum n (λ j. bit (on i j)))
    (λ i li. sum_ext n (λ j. length (put on r lines i j)) (λ j. length (lines i j) + bit (on i j)) (λ j lj. put_length on r lines i j)
    ∙ sum_add n (λ j. length (lines i j)) (λ j. bit (on i j)))
    ∙ sum_add n (λ i. sum n (λ j. length (lines i j))) (λ i. sum n (λ j. bit (on i j)))

-- THE LINES OF FEWER STATIONS, when the others have no records
pub sum_less : (n k : ℕ) (f : ℕ → ℕ) → ((i : ℕ) → n ≤ i → f i ≡ 0) → sum (n + k) f ≡ sum n f
sum_less n k f h = omega (arith, sum_more f n k, sum_nil k (λ j. f (n + j)) (λ j l. h (n + j) (omega arith)))

pub fewer_stations : (n k : ℕ) (lines : ℕ → ℕ → List Record) → ((i j : ℕ) → n ≤ i → lines i j ≡ []) → ((i j : ℕ) → n ≤ j → lines i j ≡ []) → on_the_lines (n + k) lines ≡ on_the_lines n lines
fewer_stations n k lines below right =
    sum_less n k (λ i. sum (n + k) (λ j. length (lines i j))) (λ i l. sum_nil (n + k) (λ j. length (lines i j)) (λ j lj. ap (λ (x : List Record). length x) (below i j l)))
    ∙ sum_ext n (λ i. sum (n + k) (λ j. length (lines i j))) (λ i. sum n (λ j. length (lines i j)))
    (λ i li. sum_less n k (λ j. length (lines i j)) (λ j l. ap (λ (x : List Record). length x) (right i j l)))
