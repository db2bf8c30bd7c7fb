-- THE LISTS THAT THE LENT PARTS SAY: counts and sends (words), and the texts' octets.
use Rattle.std.specs.Prelude.{◌≡◌, Bool, ◌&&◌, List, ℕ, ◌+◌, ◌*◌, ◌≤◌, eqb, length, get_or}
use Rattle.protocol.specs.Claims.{Claim, le, eq, both, all, test}
use Rattle.protocol.specs.Floor.{limits}
use Rattle.protocol.specs.PlainLists.{Plain, most_entries}
use Rattle.list_rows.specs.Rows.{Row, width, text_room, most_rows, rows_in, row_rule, listed, members}

-- the lent parts
pub record LentLists : Type 0 where
  pub counts : List ℕ
  pub sends : List ℕ
  pub octets : List ℕ

abbrev pub lent_lists : List ℕ → List ℕ → List ℕ → LentLists
lent_lists counts sends octets = record { counts = counts; sends = sends; octets = octets }

-- THE COUNTS: the mark that says started, how many stations, how many carts, how many rows are used, how many entries all lists have, and for each of
-- sixteen stations the count of its sends
pub record Counts : Type 0 where
  pub mark : ℕ
  pub stations : ℕ
  pub carts : ℕ
  pub used : ℕ
  pub entries : ℕ
  pub sent : ℕ → ℕ

-- their words
abbrev pub count_words : ℕ
count_words = 21

-- by each word
abbrev pub counts_of : (ℕ → ℕ) → Counts
counts_of W = record { mark = W 0; stations = W 1; carts = W 2; used = W 3; entries = W 4; sent = λ s. W (5 + s) }

abbrev pub counts_in : List ℕ → Counts
counts_in counts = counts_of (λ k. get_or counts k 0)

-- counts of the right length, and if they are started no larger than a start accepts and calls keep them
pub record SizedCounts (counts : List ℕ) : Type 0 where
  pub words : length counts ≡ count_words
  pub fit : (counts_in counts).mark ≡ 1 → ((counts_in counts).stations ≤ limits.stations) × ((counts_in counts).carts ≤ limits.carts) × ((counts_in counts).entries ≤ most_entries limits)

-- "a lent part .. has the wrong length" is no
unfoldable pub lent_right : LentLists → Bool
lent_right L = eqb (length L.counts) count_words && (eqb (length L.sends) (most_rows * width) && eqb (length L.octets) (most_rows * text_room))

-- the words are such as the layout has: no more rows are used than there are, each of these is such as a send leaves it, and the entries are
-- counted right
abbrev pub layout_rule : Counts → (ℕ → Row) → Claim
layout_rule N T =
    both (le N.used most_rows)
    (both (all N.used (row_rule T N.stations N.carts N.sent))
    (eq N.entries (members T N.carts N.used)))

-- the lists of these counts and rows
abbrev pub plain_from : Bool → Counts → (ℕ → Row) → Plain
plain_from lengths N T =
    record {
      lengths_right = lengths;
      words_right = test (layout_rule N T);
      started = eqb N.mark 1;
      stations = N.stations;
      carts = N.carts;
      count = N.sent;
      list = listed T N.used;
    }

-- THE LISTS
abbrev pub lists_in : LentLists → Plain
lists_in L = plain_from (lent_right L) (counts_in L.counts) (rows_in L.sends L.octets)
