-- Bits of rows of words.
use Rattle.std.specs.Prelude.{List, ℕ, ◌/◌, ◌%◌, get_or}
use Rattle.protocol.specs.CartSets.{digit}

-- bit x of a row of words, 64 in each
unfoldable pub bit_at : List ℕ → ℕ → ℕ
bit_at l x = digit (get_or l (x / 64) 0) (x % 64)
