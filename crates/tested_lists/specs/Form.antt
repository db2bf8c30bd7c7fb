-- THE FORM RULE by what is read for it: the counts, and then the rows in one pass.
use Rattle.std.specs.Prelude.{ℕ, suc, eqb}
use Rattle.protocol.specs.Floor.{limits}
use Rattle.protocol.specs.Claims.{Claim, is, le, lt, eq, both, all}
use Rattle.protocol.specs.PlainLists.{most_entries}
use Rattle.list_rows.specs.Rows.{Row, most_rows, row_rule, members}
use Rattle.lists.specs.View.{Counts}

-- each station's count is in range
abbrev pub sent_rule : Counts → ℕ → Claim
sent_rule N n = all n (λ s. le (N.sent s) (suc limits.last))

-- started, of a size that a start accepts, and no more rows and entries than there may be
abbrev pub counts_rule : Counts → Claim
counts_rule N =
    both (is (eqb N.mark 1))
    (both (both (both (lt 0 N.stations) (le N.stations limits.stations)) (both (lt 0 N.carts) (le N.carts limits.carts)))
    (both (le N.used most_rows) (both (le N.entries (most_entries limits)) (sent_rule N N.stations))))

-- each used row is such as a send leaves it, and the entries are counted right
abbrev pub rows_rule : Counts → (ℕ → Row) → Claim
rows_rule N T = both (all N.used (row_rule T N.stations N.carts N.sent)) (eq N.entries (members T N.carts N.used))
