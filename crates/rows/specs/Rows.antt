-- A TABLE OF WORDS IN ROWS.
use Rattle.std.specs.Prelude.{cond, List, ℕ, ◌+◌, ◌*◌, ◌≤◌, ltb, length, get_or}

-- word k of row r in a table whose rows are w words wide; 0 beyond the row and beyond the table
unfoldable pub cell : ℕ → List ℕ → ℕ → ℕ → ℕ
cell w words r k = cond (ltb k w) (get_or words (r * w + k) 0) 0

-- the table has a row r
abbrev pub RowIn : ℕ → List ℕ → ℕ → Type 0
RowIn w words r = r * w + w ≤ length words

-- several words of each row, of which the one with number j stands at position pos j, for j below n; 0 beyond. W r k is word k of row r.
unfoldable pub column : ℕ → (ℕ → ℕ) → (ℕ → ℕ → ℕ) → ℕ → ℕ → ℕ
column n pos W r j = cond (ltb j n) (W r (pos j)) 0
