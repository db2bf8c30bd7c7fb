-- WHICH CARTS A HELD MESSAGE NAMES: "That a held message names a cart always speaks of the set as sent".
use Rattle.std.specs.Prelude.{cond, ℕ, eqb}
use Rattle.messages.specs.View.{Rooms}

-- of the message in room m; none where the room is free
abbrev pub named_if_held : Rooms → ℕ → ℕ
named_if_held R m = cond (eqb (R.waiting m) 0) 0 (R.named m)
