-- A CART STRUCK FROM COPIES.
use Rattle.std.specs.Prelude.{Bool, cond, ◌&&◌, List, ℕ, eqb, ltb}
use Rattle.protocol.specs.CartSets.{has, without}
use Rattle.protocol.specs.Handoff.{entry_of}
use Rattle.stations.specs.View.{Stations, with_copy}
use Rattle.messages.specs.View.{Rooms}

-- other copies
abbrev pub with_copies : Stations → (ℕ → ℕ → ℕ) → Stations
with_copies S copy = record { sent = S.sent; expected = S.expected; local = S.local; copy = copy; acks = S.acks; queue = S.queue }

-- is the message in room m buffered at station t, with a number below x
abbrev pub is_below : Stations → Rooms → ℕ → ℕ → ℕ → Bool
is_below S R t m x = (has (R.waiting m) t && ltb (R.number m) (S.expected t (R.initiator m))) && ltb (R.number m) x

-- is it, "with a number below the cart's next number" in that row
abbrev pub is_passed : Stations → Rooms → ℕ → List ℕ → ℕ → Bool
is_passed S R t row m = is_below S R t m (entry_of row (R.initiator m))

-- the copy x of the message in room m, from which cart c is struck if it is past that message
abbrev pub struck_copy : Stations → Rooms → ℕ → ℕ → List ℕ → ℕ → ℕ → ℕ
struck_copy S R t c row m x = cond (is_passed S R t row m) (without x c) x

-- cart c is struck from the copy in room m at station t if that message is buffered there with a number below x
abbrev pub struck_in : Stations → Rooms → ℕ → ℕ → ℕ → ℕ → Stations
struck_in S R t c m x = with_copy S m t (cond (is_below S R t m x) (without (S.copy m t) c) (S.copy m t))

-- "from each buffered copy naming the cart with a number below the cart's next number, the cart is struck": cart c with that row, at station t
abbrev pub struck_from : Stations → Rooms → ℕ → ℕ → List ℕ → Stations
struck_from S R t c row = with_copies S (λ m u. cond (eqb u t && is_passed S R t row m) (without (S.copy m u) c) (S.copy m u))
