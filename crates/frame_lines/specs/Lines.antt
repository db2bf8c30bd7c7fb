-- Lines written into lent octets.
use Rattle.std.specs.Prelude.{◌≡◌, List, [], ◌∷◌, ◌++◌, ℕ, zero, suc, ◌+◌, ◌*◌, ◌/◌, ◌%◌, ◌≤◌, ◌<◌, length, take, drop, get_or}
use Rattle.protocol.specs.Printed.{digit_char, decimal}

-- WRITING

-- the octets l with a line written from a position on: what stands before it and behind it stays
unfoldable pub written : List ℕ → ℕ → List ℕ → List ℕ
written l at line = take at l ++ line ++ drop (at + length line) l

-- the line was written into l from `at` on, which gives l', and `next` is the position behind it; it has at most so many octets, and
-- l' is as long as l
pub record Wrote (most : ℕ) (line l l' : List ℕ) (at next : ℕ) : Type 0 where
  pub octets : l' ≡ written l at line
  pub behind : next ≡ at + length line
  pub few : next ≤ at + most
  pub kept : length l' ≡ length l

-- the same, where so many octets behind the line may have changed: whatever is written there next covers them, if it is as long
pub record Began (over most : ℕ) (line l l' : List ℕ) (at next : ℕ) : Type 0 where
  pub octets : (b : List ℕ) → over ≤ length b → written l' next b ≡ written l at (line ++ b)
  pub behind : next ≡ at + length line
  pub few : next ≤ at + most
  pub kept : length l' ≡ length l

-- LINES

-- How many octets each part of a line has at most, each but the smallest as the sum of what it consists of: no proof and no contract has the sums
-- themselves, so a longer line is a change here and of the constants in src/lib.rt.

-- a number below 2 ^ 64
abbrev pub longest_number : ℕ
longest_number = 20

-- a text in a room, before it is printed; and one in the long store
abbrev pub text_octets : ℕ
text_octets = 32

abbrev pub long_octets : ℕ
long_octets = 512

-- a blank and a number
abbrev pub longest_field : ℕ
longest_field = 1 + longest_number

-- a blank and a number that the table has
abbrev pub short_field : ℕ
short_field = 1 + 4

-- the numbers "kind, a, b, p", then "w" and "q"
abbrev pub longest_head : ℕ
longest_head = 4 * longest_field

abbrev pub longest_pair : ℕ
longest_pair = 2 * longest_field

abbrev pub longest_numbers : ℕ
longest_numbers = longest_head + longest_pair

-- a text's digits, two for each octet; and with a blank before them
abbrev pub text_digits : ℕ
text_digits = 2 * text_octets

abbrev pub long_digits : ℕ
long_digits = 2 * long_octets

abbrev pub longest_text : ℕ
longest_text = 1 + long_digits

-- the numbers and the text; then the line end, and before all this the index
abbrev pub longest_fields : ℕ
longest_fields = longest_numbers + longest_text

abbrev pub longest_rest : ℕ
longest_rest = longest_fields + 1

abbrev pub longest_line : ℕ
longest_line = longest_number + longest_rest

-- what a text in a room is written over: all digits that it may have are moved, and as many octets behind it are put back
abbrev pub digits_room : ℕ
digits_room = text_digits + text_digits

-- the rooms that a line and its rest are written in: with the octets that are moved behind it, a text in a room takes less than the longest text
abbrev pub rest_room : ℕ
rest_room = longest_rest

abbrev pub line_room : ℕ
line_room = longest_line

-- the line of a refusal: a blank and "no", a number and the line end
abbrev pub longest_no : ℕ
longest_no = 3

abbrev pub short_rest : ℕ
short_rest = longest_no + longest_field + 1

abbrev pub longest_refusal : ℕ
longest_refusal = longest_number + short_rest

-- the last k decimal digits of n
unfoldable pub last_digits : ℕ → ℕ → List ℕ
last_digits zero n = []
last_digits (suc k) n = last_digits k (n / 10) ++ (digit_char (n % 10) ∷ [])

-- the four octets of a word, the least first
unfoldable pub four_octets : ℕ → List ℕ
four_octets w = w % 256 ∷ w / 256 % 256 ∷ w / 65536 % 256 ∷ w / 16777216 ∷ []

-- a word spells a number: its four lowest octets are the digits, from the first one on, and blanks behind them, and above these stands how
-- many digits there are
pub record Spells (word n : ℕ) : Type 0 where
  pub octets : four_octets (word % 4294967296) ≡ take 4 (decimal n ++ (32 ∷ 32 ∷ 32 ∷ []))
  pub count : word / 4294967296 ≡ length (decimal n)

-- the table of the numbers of at most four digits, each spelled in its word
pub record Tabled (numbers : List ℕ) : Type 0 where
  pub size : length numbers ≡ 10000
  pub spelled : (n : ℕ) → n < 10000 → Spells (get_or numbers n 0) n
