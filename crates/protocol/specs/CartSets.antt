-- Sets of carts, and of stations, as numbers: "cart c has weight 2^c".
use Rattle.std.specs.Prelude.{Bool, cond, ℕ, zero, suc, ◌+◌, ◌/◌, ◌%◌, ◌^◌, eqb}
use Rattle.std.specs.Int.Bits.{bit_and, bit_or, bit_xor}

-- the binary digit of weight 2^c, 0 or 1
abbrev pub digit : ℕ → ℕ → ℕ
digit x c = x / 2 ^ c % 2

-- is c in the set x
unfoldable pub has : ℕ → ℕ → Bool
has x c = eqb (digit x c) 1

-- those in x or in y
unfoldable pub union : ℕ → ℕ → ℕ
union x y = bit_or x y

-- those in x that are not in y
unfoldable pub minus : ℕ → ℕ → ℕ
minus x y = bit_xor x (bit_and x y)

-- x and c
unfoldable pub with : ℕ → ℕ → ℕ
with x c = union x (2 ^ c)

-- x but for c
unfoldable pub without : ℕ → ℕ → ℕ
without x c = minus x (2 ^ c)

-- those below n that pass
unfoldable pub set_of : ℕ → (ℕ → Bool) → ℕ
set_of zero f = 0
set_of (suc n) f = set_of n f + cond (f n) (2 ^ n) 0
