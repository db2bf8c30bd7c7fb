-- HOW A TABLE OF CARTS LIES IN WORDS: rows of nineteen, one for each cart. First the three words of its place, then its sixteen next numbers. Its flag
-- stands in the first word.
use Rattle.std.specs.Prelude.{Bool, true, false, cond, ◌&&◌, List, ℕ, zero, suc, ◌+◌, ◌*◌, ◌%◌, ◌≤◌, eqb, ltb, length}
use Rattle.protocol.specs.Floor.{Place, outside, at, leaving, travelling}

-- the words of a row
abbrev pub width : ℕ
width = 19

-- the table has a row for cart c
abbrev pub HasRow : List ℕ → ℕ → Type 0
HasRow words c = c * width + width ≤ length words

-- the first word of a row: the kind of the cart's place, one of four, and 4 more if the cart is not steady. So a row of zeros is a steady cart outside
abbrev pub first_word : ℕ → Bool → ℕ
first_word kind steady = kind + cond steady 0 4

-- the kind that it says, and the flag
abbrev pub kind_in : ℕ → ℕ
kind_in first = first % 4

abbrev pub steady_in : ℕ → Bool
steady_in first = ltb first 4

-- the place that three words say: its kind, and its stations. A kind that there is not says outside; such words are not canonical.
abbrev pub place_in : ℕ → ℕ → ℕ → Place
place_in zero s t = outside
place_in (suc zero) s t = at s
place_in (suc (suc zero)) s t = leaving s t
place_in (suc (suc (suc zero))) s t = travelling s t
place_in (suc (suc (suc (suc kind)))) s t = outside

-- are these the words that a place is written in: one of the four kinds, with 0 for a station that it does not have
abbrev pub canonical : ℕ → ℕ → ℕ → Bool
canonical zero s t = eqb s 0 && eqb t 0
canonical (suc zero) s t = eqb t 0
canonical (suc (suc zero)) s t = true
canonical (suc (suc (suc zero))) s t = true
canonical (suc (suc (suc (suc kind)))) s t = false

-- and are these the first words of a row: a flag and a kind, and the stations of that kind
abbrev pub canonical_first : ℕ → ℕ → ℕ → Bool
canonical_first first s t = ltb first 8 && canonical (kind_in first) s t
