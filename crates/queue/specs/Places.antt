-- THE PLACE OF AN ENTRY in a queue: "1 for the head".
use Rattle.std.specs.Prelude.{Bool, ◌&&◌, ◌||◌, not, ℕ, suc, eqb, ltb}
use Rattle.protocol.specs.Folds.{count}
use Rattle.stations.specs.View.{Stations}
use Rattle.messages.specs.View.{Rooms}

-- "smallest number first; between equal numbers the higher initiator stands first": does the message in room k stand before that in room m
abbrev pub is_before : Rooms → ℕ → ℕ → Bool
is_before R k m = ltb (R.number k) (R.number m) || (eqb (R.number k) (R.number m) && ltb (R.initiator m) (R.initiator k))

-- has room k an entry in the queue at t that stands before the message in room m
abbrev pub is_ahead : Stations → Rooms → ℕ → ℕ → ℕ → Bool
is_ahead S R t m k = not (eqb (S.queue k t) 0) && is_before R k m

-- the place of the entry for the message in room m, among those of the first n rooms
unfoldable pub place_among : Stations → Rooms → ℕ → ℕ → ℕ → ℕ
place_among S R t m n = suc (count n (is_ahead S R t m))
