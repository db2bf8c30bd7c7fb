-- What the words of the pool are.
use Rattle.std.specs.Prelude.{List, ℕ, ◌+◌, ◌-◌, ◌*◌, ◌/◌, length, get_or}

-- how many words say which rows are free, and how many rows they can speak of: 64 each. The summary stands after them
abbrev pub free_words : ℕ
free_words = 49

abbrev pub most_rows : ℕ
most_rows = 3136

-- from each of 16 stations to each
abbrev pub line_count : ℕ
line_count = 256

-- how many carts may have a register on the lines
abbrev pub most_carts : ℕ
most_carts = 64

-- where the lines begin, the registers and the rows
abbrev pub lines_at : ℕ
lines_at = 50

abbrev pub registers_at : ℕ
registers_at = 818

abbrev pub rows_at : ℕ
rows_at = 1842

-- where line k stands, the register of cart c and row x
abbrev pub line_at : ℕ → ℕ
line_at k = lines_at + k * 3

abbrev pub register_at : ℕ → ℕ
register_at c = registers_at + c * 16

abbrev pub row_at : ℕ → ℕ
row_at x = rows_at + x * 3

-- how many rows the pool has
unfoldable pub capacity : List ℕ → ℕ
capacity l = (length l - rows_at) / 3

abbrev pub summary_of : List ℕ → ℕ
summary_of l = get_or l free_words 0

abbrev pub head_of : List ℕ → ℕ → ℕ
head_of l k = get_or l (line_at k) 0

abbrev pub tail_of : List ℕ → ℕ → ℕ
tail_of l k = get_or l (line_at k + 1) 0

abbrev pub length_of : List ℕ → ℕ → ℕ
length_of l k = get_or l (line_at k + 2) 0

abbrev pub next_of : List ℕ → ℕ → ℕ
next_of l x = get_or l (row_at x) 0

abbrev pub word_of : List ℕ → ℕ → ℕ
word_of l x = get_or l (row_at x + 1) 0

abbrev pub carts_of : List ℕ → ℕ → ℕ
carts_of l x = get_or l (row_at x + 2) 0
