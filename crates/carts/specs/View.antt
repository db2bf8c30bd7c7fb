-- THE CARTS THAT A LENT TABLE HOLDS, and the carts with one entry changed.
use Rattle.std.specs.Prelude.{◌≡◌, Bool, true, cond, List, ℕ, ◌+◌, eqb}
use Rattle.protocol.specs.Folds.{list_of, update, update2}
use Rattle.protocol.specs.Floor.{Place, outside, Carts}
use Rattle.protocol.specs.Handoff.{entry_of}
use Rattle.carts.specs.declared.Cart.{Cart}
use Rattle.rows.specs.Rows.{cell}
use Rattle.carts.specs.Words.{width, kind_in, steady_in, place_in, canonical_first}
use Rattle.carts.specs.Records.{seen}

-- the carts in a table: beyond its rows they are outside and steady, beyond sixteen initiators their next numbers are 0
unfoldable pub carts_in : List ℕ → Carts
carts_in words =
    record {
      place = λ c. place_in (kind_in (cell width words c 0)) (cell width words c 1) (cell width words c 2);
      next = λ c s. cell width words c (3 + s);
      steady = λ c. steady_in (cell width words c 0);
    }

-- the rows whose place and flag stand in canonical words
unfoldable pub canonical_in : List ℕ → ℕ → Bool
canonical_in words c = canonical_first (cell width words c 0) (cell width words c 1) (cell width words c 2)

-- every cart outside, and steady
abbrev pub no_carts : Carts
no_carts = record { place = λ c. outside; next = λ c s. 0; steady = λ c. true }

-- cart c in another place
abbrev pub with_place : Carts → ℕ → Place → Carts
with_place C c p = record { place = update C.place c p; next = C.next; steady = C.steady }

-- cart c steady, or not
abbrev pub with_steady : Carts → ℕ → Bool → Carts
with_steady C c b = record { place = C.place; next = C.next; steady = update C.steady c b }

-- another next number of cart c, for initiator s
abbrev pub with_next : Carts → ℕ → ℕ → ℕ → Carts
with_next C c s n = record { place = C.place; next = update2 C.next c s n; steady = C.steady }

-- "the cart's whole row of next numbers": another row of cart c
abbrev pub with_row : Carts → ℕ → List ℕ → Carts
with_row C c row = record { place = C.place; next = λ d s. cond (eqb d c) (entry_of row s) (C.next d s); steady = C.steady }

-- cart c outside, with all next numbers 0
abbrev pub with_outside : Carts → ℕ → Carts
with_outside C c = record { place = update C.place c outside; next = λ d s. cond (eqb d c) 0 (C.next d s); steady = C.steady }

-- another record of cart c
abbrev pub with_cart : Carts → ℕ → Cart → Carts
with_cart C c k = with_row (with_steady (with_place C c (seen k.place)) c k.steady) c k.next

-- k is the record of cart c: its place, its row of sixteen next numbers, and its flag
pub record IsCart (C : Carts) (c : ℕ) (k : Cart) : Type 0 where
  pub place : seen k.place ≡ C.place c
  pub next : k.next ≡ list_of 16 (C.next c)
  pub steady : k.steady ≡ C.steady c
