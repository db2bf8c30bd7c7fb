-- The lines as lists of records, and the rows of the registers.
use Rattle.std.specs.Prelude.{cond, ◌&&◌, List, [], ◌∷◌, map, ℕ, zero, suc, ◌+◌, ltb, length, get_or}
use Rattle.protocol.specs.Folds.{sum}
use Rattle.lines.specs.declared.Record.{Record}
use Rattle.lines.specs.Words.{line_count, most_carts, register_at, head_of, length_of, next_of, word_of, carts_of}

-- n rows, each but the first the next of the one before
unfoldable pub chain : (ℕ → ℕ) → ℕ → ℕ → List ℕ
chain next x zero = []
chain next x (suc n) = x ∷ chain next (next x) n

-- the rows of line k, its head first
unfoldable pub rows_of : List ℕ → ℕ → List ℕ
rows_of l k = chain (next_of l) (head_of l k) (length_of l k)

-- the record in row x
unfoldable pub record_of : List ℕ → ℕ → Record
record_of l x = record { 0 = word_of l x; 1 = carts_of l x }

-- line k, its head first
unfoldable pub records_on : List ℕ → ℕ → List Record
records_on l k = map (record_of l) (rows_of l k)

-- the records of n rows, from row x on: what is still to come of a line that is being visited
unfoldable pub records_from : List ℕ → ℕ → ℕ → List Record
records_from l x n = map (record_of l) (chain (next_of l) x n)

-- how many records are on the lines
unfoldable pub used : List ℕ → ℕ
used l = sum line_count (λ k. length (records_on l k))

-- "the register record carries the cart's whole row of next numbers": word s of the row of cart c's register; 0 beyond 64 carts and 16 words
unfoldable pub registers_in : List ℕ → ℕ → ℕ → ℕ
registers_in l c s = cond (ltb c most_carts && ltb s 16) (get_or l (register_at c + s) 0) 0
