-- THE TEXTS OF THE HELD MESSAGES, in lent octets: each room has a part for "text 0 to 32 octets".
use Rattle.std.specs.Prelude.{List, ℕ, ◌*◌, take, drop}
use Rattle.rows.specs.Rows.{RowIn}

-- the octets of a room's part
abbrev pub longest : ℕ
longest = 32

-- there is a part for room m
abbrev pub HasText : List ℕ → ℕ → Type 0
HasText texts m = RowIn longest texts m

-- the first n octets of room m's part
unfoldable pub text_in : List ℕ → ℕ → ℕ → List ℕ
text_in texts n m = take n (drop (m * longest) texts)
