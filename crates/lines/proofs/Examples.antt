-- The specification computes: a pool of four rows, with two records on line 18, from station 1 to 2, in rows 0 and 3.
use mathlib.Core.Path.{◌≡◌, refl}
use mathlib.Core.Bool.{true, false}
use mathlib.Core.List.{List, [], ◌∷◌}
use Prim.Native.Nat.{ℕ, ◌+◌}
use lib.ListN.{set, replicate}
use Rattle.protocol.specs.Folds.{every, sum}
use Rattle.lines.specs.Bits.{bit_at}
use Rattle.lines.specs.Words.{capacity, line_at, row_at}
use Rattle.lines.specs.Lines.{chain, rows_of, record_of, records_on, used}
use Rattle.lines.specs.Form.{count, all_below, last_of, rows_on_lines, sized, line_ok, rows_ok, summary_ok, form}
use Rattle.lines.specs.Parts.{joined}

-- rows 1 and 2 are free
start : List ℕ
start = set (set (replicate (row_at 4) 0) 0 6) 49 1

-- the record (7, 70) is alone on the line, in row 0, and then (8, 80) joins it in row 3
pool : List ℕ
pool = joined (joined start (line_at 18) 18 0 0 (record { 0 = 7; 1 = 70 })) (row_at 0) 18 3 1 (record { 0 = 8; 1 = 80 })

in_order : records_on pool 18 ≡ record { 0 = 7; 1 = 70 } ∷ record { 0 = 8; 1 = 80 } ∷ []
unfolding pool start joined records_on record_of rows_of chain
in_order = refl

two_used : used pool ≡ 2
unfolding pool start joined used sum records_on rows_of chain
two_used = refl

well_formed : form pool ≡ true
unfolding pool start joined form sized line_ok rows_ok summary_ok every count all_below last_of rows_on_lines rows_of chain bit_at capacity
well_formed = refl

-- row 3 is on the line and free
both : form (set pool 0 14) ≡ false
unfolding pool start joined form sized line_ok rows_ok summary_ok every count all_below last_of rows_on_lines rows_of chain bit_at capacity
both = refl

-- row 3 names row 0 again: the line is a ring of three
ring : form (set (set pool (row_at 3) 0) (line_at 18 + 2) 3) ≡ false
unfolding pool start joined form sized line_ok rows_ok summary_ok every count all_below last_of rows_on_lines rows_of chain bit_at capacity
ring = refl

-- the tail is another row
tail : form (set pool (line_at 18 + 1) 0) ≡ false
unfolding pool start joined form sized line_ok rows_ok summary_ok every count all_below last_of rows_on_lines rows_of chain bit_at capacity
tail = refl

-- the summary says that no row is free
summary : form (set pool 49 0) ≡ false
unfolding pool start joined form sized line_ok rows_ok summary_ok every count all_below last_of rows_on_lines rows_of chain bit_at capacity
summary = refl
