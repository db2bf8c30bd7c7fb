-- What the parts of the public functions answer and leave.
use Rattle.std.specs.Prelude.{◌≡◌, Bool, true, false, List, ℕ, ◌+◌, ◌-◌, ◌*◌, ◌^◌, ◌≤◌, ◌<◌, max, eqb, ltb, length, get_or, set}
use Rattle.protocol.specs.Folds.{every}
use Rattle.protocol.specs.CartSets.{digit, has}
use Rattle.protocol.specs.Form.{bit}
use Rattle.lines.specs.declared.Record.{Record}
use Rattle.lines.specs.Bits.{bit_at}
use Rattle.lines.specs.Words.{free_words, most_rows, line_count, lines_at, capacity, summary_of, line_at, row_at, tail_of, length_of}
use Rattle.lines.specs.Lines.{rows_of}
use Rattle.lines.specs.Form.{form, line_ok, count, rows_on_lines, summary_ok}

-- r is the summary s with the bit of word w, whose value is x
pub record Summed (s w x r : ℕ) : Type 0 where
  pub here : has r w ≡ ltb 0 x
  pub there : (c : ℕ) → (c ≡ w → ⊥) → has r c ≡ has s c
  pub small : s < 2 ^ free_words → r < 2 ^ free_words

-- r is word w of the free rows where all rows are free
abbrev pub Full : ℕ → ℕ → ℕ → Type 0
Full rows w r = (c : ℕ) → c < 64 → digit r c ≡ bit (ltb (w * 64 + c) rows)

-- ---- the free rows
-- word w of the free rows is x now, and the summary says so
pub record Freed (l l' : List ℕ) (w x : ℕ) : Type 0 where
  pub word : get_or l' w 0 ≡ x
  pub others : (a : ℕ) → (a ≡ w → ⊥) → (a ≡ free_words → ⊥) → get_or l' a 0 ≡ get_or l a 0
  pub summary : Summed (summary_of l) w x (summary_of l')

-- the free row f is taken
pub record Taken (l l' : List ℕ) (f : ℕ) : Type 0 where
  pub within : f < most_rows
  pub was : bit_at l f ≡ 1
  pub bits : (x : ℕ) → x < most_rows → bit_at l' x ≡ bit_at l x - bit (eqb f x)
  pub rest : (a : ℕ) → lines_at ≤ a → get_or l' a 0 ≡ get_or l a 0
  pub summary : summary_ok l' ≡ true

-- row f is given back
pub record Given (l l' : List ℕ) (f : ℕ) : Type 0 where
  pub bits : (x : ℕ) → x < most_rows → bit_at l' x ≡ max (bit_at l x) (bit (eqb f x))
  pub rest : (a : ℕ) → lines_at ≤ a → get_or l' a 0 ≡ get_or l a 0
  pub summary : summary_ok l' ≡ true

-- all rows are free
pub record AllFree (l l' : List ℕ) : Type 0 where
  pub bits : (x : ℕ) → x < most_rows → bit_at l' x ≡ bit (ltb x (capacity l))
  pub summary : summary_ok l' ≡ true

-- all lines are empty, and the words before them are as they were
pub record Emptied (l l' : List ℕ) : Type 0 where
  pub empty : (k : ℕ) → k < line_count → length_of l' k ≡ 0
  pub rest : (a : ℕ) → a < lines_at → get_or l' a 0 ≡ get_or l a 0

-- ---- the links of a line
-- the word that has to name a row that joins line k: the head of an empty line, or what follows its tail
pub record Link (l : List ℕ) (k at : ℕ) : Type 0 where
  pub first : length_of l k ≡ 0 → at ≡ line_at k
  pub later : 0 < length_of l k → at ≡ row_at (tail_of l k)

-- what the stores of a push ask: their words are there, and no number grows past a word
pub record Fits (l : List ℕ) (at k f n : ℕ) : Type 0 where
  pub link : at < length l
  pub line : line_at k + 3 ≤ length l
  pub row : row_at f + 3 ≤ length l
  pub few : n ≤ most_rows
  pub low : f < most_rows

-- row f, with the record r, is the tail of line k, which had n rows; the word `at` names it
unfoldable pub joined : List ℕ → (at k f n : ℕ) → Record → List ℕ
joined l at k f n r =
    set (set (set (set (set l (row_at f + 1) r.0) (row_at f + 2) r.1) at f) (line_at k + 1) f) (line_at k + 2) (n + 1)

-- row x is the head of line k, which has n rows
unfoldable pub left : List ℕ → (k x n : ℕ) → List ℕ
left l k x n = set (set l (line_at k) x) (line_at k + 2) n

-- ---- the form test
-- row x is marked as seen
abbrev pub Marked : List ℕ → List ℕ → ℕ → Type 0
Marked s s' x = (c : ℕ) → bit_at s' c ≡ max (bit_at s c) (bit (eqb x c))

-- a walk of line k: it is right and each of its rows is marked once more; or it is wrong, or has a row that is seen twice
pub record Walked (l : List ℕ) (k : ℕ) (s s' : List ℕ) (r : Bool) : Type 0 where
  pub good : r ≡ true → (line_ok l k ≡ true) × ((x : ℕ) → bit_at s' x ≡ bit_at s x + count x (rows_of l k))
  pub bad : r ≡ false → line_ok l k ≡ true → ((x : ℕ) → x < capacity l → bit_at s x + count x (rows_of l k) ≤ 1) → ⊥

-- a walk of every line
pub record Surveyed (l s' : List ℕ) (r : Bool) : Type 0 where
  pub good : r ≡ true → (every line_count (line_ok l) ≡ true) × ((x : ℕ) → bit_at s' x ≡ count x (rows_on_lines l line_count))
  pub bad : r ≡ false → form l ≡ true → ⊥
