-- When the words of a pool are well-formed: a test that computes.
use Rattle.std.specs.Prelude.{Bool, true, ◌&&◌, List, [], ◌∷◌, ◌++◌, ℕ, zero, suc, ◌+◌, ◌*◌, ◌^◌, eqb, leb, ltb, length, get_or}
use Rattle.protocol.specs.Folds.{every}
use Rattle.protocol.specs.CartSets.{digit}
use Rattle.protocol.specs.Form.{bit}
use Rattle.lines.specs.Bits.{bit_at}
use Rattle.lines.specs.Words.{free_words, most_rows, line_count, rows_at, capacity, summary_of, tail_of}
use Rattle.lines.specs.Lines.{rows_of}

-- how often x stands in a list
unfoldable pub count : ℕ → List ℕ → ℕ
count x [] = 0
count x (y ∷ ys) = bit (eqb y x) + count x ys

-- every number of a list is below n
unfoldable pub all_below : ℕ → List ℕ → Bool
all_below n [] = true
all_below n (x ∷ xs) = ltb x n && all_below n xs

-- the last number of a list, and d where it has none
unfoldable pub last_of : ℕ → List ℕ → ℕ
last_of d [] = d
last_of d (x ∷ xs) = last_of x xs

-- the rows of the lines below n, line after line
unfoldable pub rows_on_lines : List ℕ → ℕ → List ℕ
rows_on_lines l zero = []
rows_on_lines l (suc k) = rows_on_lines l k ++ rows_of l k

-- whole rows after the lines, and no more of them than there are bits for free rows
unfoldable pub sized : List ℕ → Bool
sized l = eqb (length l) (rows_at + capacity l * 3) && leb (capacity l) most_rows

-- the rows of line k are rows of the pool, and the last is the tail that the line names
unfoldable pub line_ok : List ℕ → ℕ → Bool
line_ok l k = all_below (capacity l) (rows_of l k) && eqb (last_of (tail_of l k) (rows_of l k)) (tail_of l k)

-- each row of the pool is free or stands once on the lines, not both, and no other row is either; `stands x` says how often x stands
unfoldable pub rows_ok : (ℕ → ℕ) → List ℕ → Bool
rows_ok stands l = every most_rows (λ x. eqb (stands x + bit_at l x) (bit (ltb x (capacity l))))

-- the summary says which words of the free rows are not 0, and has no other bit
unfoldable pub summary_ok : List ℕ → Bool
summary_ok l = every free_words (λ w. eqb (digit (summary_of l) w) (bit (ltb 0 (get_or l w 0)))) && ltb (summary_of l) (2 ^ free_words)

-- the whole rule
unfoldable pub form : List ℕ → Bool
form l = sized l && (every line_count (line_ok l) && (rows_ok (λ x. count x (rows_on_lines l line_count)) l && summary_ok l))
