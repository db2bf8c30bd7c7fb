-- THE MESSAGES IN ROWS, one for each send, in the order of the sends: a message stays in its row until every cart that it names has taken it. The
-- list of a station and a cart is the station's rows that the cart has yet to take.
use Rattle.std.specs.Prelude.{Bool, cond, ◌&&◌, List, [], ◌∷◌, ◌++◌, ℕ, zero, suc, ◌*◌, ◌%◌, ◌^◌, eqb, length, take, drop}
use Rattle.std.proofs.Math.Option.{Option}
use Rattle.protocol.specs.Folds.{first, count, sum, update}
use Rattle.protocol.specs.CartSets.{has, without}
use Rattle.protocol.specs.Floor.{limits, most_text}
use Rattle.protocol.specs.Claims.{Claim, le, lt, both}
use Rattle.protocol.specs.TwoLists.{Item, item}
use Rattle.protocol.specs.PlainLists.{most_entries}
use Rattle.rows.specs.Rows.{cell}
use Rattle.list_rows.specs.declared.Message.{Message}

-- a row: a message, and who has yet to take it
pub record Row : Type 0 where
  pub initiator : ℕ
  pub number : ℕ
  -- the carts that have yet to take it
  pub carts : ℕ
  -- how many octets its text has
  pub size : ℕ
  pub text : List ℕ

-- THE WORDS AND OCTETS OF A ROW

-- the words of a row
abbrev pub width : ℕ
width = 4

-- the octets that each row has for its text: as many as a send of any kind may carry, short or long
abbrev pub text_room : ℕ
text_room = most_text limits

-- how many rows there are: as many as there may be entries, since a row that somebody has yet to take has one at least
abbrev pub most_rows : ℕ
most_rows = most_entries limits

-- the octets of row r
unfoldable pub part_in : List ℕ → ℕ → List ℕ
part_in octets r = take text_room (drop (r * text_room) octets)

-- row r, by the words and the octets of each row
abbrev pub row_of : (ℕ → ℕ → ℕ) → (ℕ → List ℕ) → ℕ → Row
row_of W part r = record { initiator = W r 0; number = W r 1; carts = W r 2; size = W r 3; text = take (W r 3) (part r) }

-- row r in the lent parts
abbrev pub rows_in : List ℕ → List ℕ → ℕ → Row
rows_in sends octets r = row_of (cell width sends) (part_in octets) r

-- its message, as the running code has it
abbrev pub message_of : Row → Message
message_of x = record { initiator = record { 0 = x.initiator }; number = record { 0 = x.number }; carts = x.carts }

-- a message just sent, that all these carts have yet to take
abbrev pub new_row : ℕ → ℕ → ℕ → List ℕ → Row
new_row s number carts text = record { initiator = s; number = number; carts = carts; size = length text; text = text }

-- the row when the cart has taken it
abbrev pub taken_by : Row → ℕ → Row
taken_by x c = record { initiator = x.initiator; number = x.number; carts = without x.carts c; size = x.size; text = x.text }

-- THE LISTS OF THE FIRST n ROWS

-- is the row in the list of station s and cart c
abbrev pub waits : ℕ → ℕ → Row → Bool
waits s c x = eqb s x.initiator && has x.carts c

-- "for every station and cart, a plain list of messages not yet received", in the order of the rows
unfoldable pub listed : (ℕ → Row) → ℕ → ℕ → ℕ → List Item
listed T zero s c = []
listed T (suc n) s c = cond (waits s c (T n)) (listed T n s c ++ (item (T n).number (T n).text ∷ [])) (listed T n s c)

-- the row at the head of that list
abbrev pub first_waiting : (ℕ → Row) → ℕ → ℕ → ℕ → Option ℕ
first_waiting T n s c = first n (λ r. waits s c (T r))

-- how many entries they are, on a floor of k carts
unfoldable pub members : (ℕ → Row) → ℕ → ℕ → ℕ
members T k n = sum n (λ r. count k (has (T r).carts))

-- one more than the number of the last of them that is of station s; 0 if none is
unfoldable pub above : (ℕ → Row) → ℕ → ℕ → ℕ
above T s zero = 0
above T s (suc n) = cond (eqb s (T n).initiator) (suc (T n).number) (above T s n)

-- such as a send leaves it, on a floor of n stations and k carts: the initiator is a station; its number is from the station's low one on, and
-- below the station's count of sends; only carts have yet to take it; the text is within the row's octets
abbrev pub row_fits : (ℕ → ℕ) → ℕ → ℕ → (ℕ → ℕ) → Row → Claim
row_fits low n k sent x =
    both (lt x.initiator n)
    (both (le (low x.initiator) x.number)
    (both (lt x.number (sent x.initiator))
    (both (lt x.carts (2 ^ k)) (le x.size text_room))))

-- row r is, and its number is higher than those of the station's rows before it
abbrev pub row_rule : (ℕ → Row) → ℕ → ℕ → (ℕ → ℕ) → ℕ → Claim
row_rule T n k sent r = row_fits (λ s. above T s r) n k sent (T r)

-- ROOM FOR ANOTHER ROW

-- the rows, and how many of them are used
pub record Used : Type 0 where
  pub rows : ℕ → Row
  pub used : ℕ

abbrev pub used_rows : (ℕ → Row) → ℕ → Used
used_rows T n = record { rows = T; used = n }

-- row r is moved behind the used ones, unless every cart has taken it
unfoldable pub keep_row : Used → ℕ → Used
keep_row U r = cond (eqb (U.rows r).carts 0) U (used_rows (update U.rows U.used (U.rows r)) (suc U.used))

-- of the first n rows, those that somebody has yet to take, moved together
unfoldable pub squeezed : (ℕ → Row) → ℕ → Used
squeezed T zero = used_rows T 0
squeezed T (suc n) = keep_row (squeezed T n) n

-- so many sends go by between two times that rows are moved together
abbrev pub often_enough : ℕ
often_enough = 64

-- with a row behind the used ones: where their number is a multiple of that, they are moved together first
abbrev pub with_room : (ℕ → Row) → ℕ → Used
with_room T n = cond (eqb (n % often_enough) 0) (squeezed T n) (used_rows T n)
