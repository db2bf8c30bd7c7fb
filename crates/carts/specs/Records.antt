-- A CART'S RECORD: "A cart's record is handed in and handed back with its new state".
use Rattle.std.specs.Prelude.{Bool, cond, List, ℕ, ◌+◌, ltb, set}
use Rattle.protocol.specs.Folds.{list_of}
use Rattle.protocol.specs.Floor.{outside, at, leaving, travelling}
use Rattle.protocol.specs.Floor as floor
use Rattle.ids.specs.declared.Station.{Station}
use Rattle.ids.specs.declared.MessageNumber.{MessageNumber}
use Rattle.carts.specs.declared.Place.{Place}
use Rattle.carts.specs.declared.Place.TheVariants.{Outside, At, Leaving, Travelling}
use Rattle.carts.specs.declared.Cart.{Cart}

-- the place of the written steps that a place in a record is
abbrev pub seen : Place → floor.Place
seen Outside = outside
seen (At s) = at s.0
seen (Leaving s t) = leaving s.0 t.0
seen (Travelling s t) = travelling s.0 t.0

-- "leaving (it has greeted a new station, the old one has not heard)": from a station a cart is leaving it for the new one; elsewhere it stays
abbrev pub greeted_place : Place → Station → Place
greeted_place Outside to = Outside
greeted_place (At s) to = Leaving s to
greeted_place (Leaving s t) to = Leaving s t
greeted_place (Travelling s t) to = Travelling s t

-- a cart's record when it has greeted a new station
abbrev pub greeted : Cart → Station → Cart
greeted k to = record { place = greeted_place k.place to; next = k.next; steady = k.steady }

-- "travelling (its register is on a line)": a leaving cart is on its way to where it was leaving for; any other stays
abbrev pub departed_place : Place → Place
departed_place Outside = Outside
departed_place (At s) = At s
departed_place (Leaving s t) = Travelling s t
departed_place (Travelling s t) = Travelling s t

-- a cart's record when the old station has heard
abbrev pub departed : Cart → Cart
departed k = record { place = departed_place k.place; next = k.next; steady = k.steady }

-- "the cart is at this station", with the row of next numbers that its register carried; "The flag travels with the cart through hand-offs"
abbrev pub arrived : Cart → Station → List ℕ → Cart
arrived k station row = record { place = At station; next = row; steady = k.steady }

-- the number after a message's; the last word has none after it, and stays
abbrev pub number_after : ℕ → ℕ
number_after n = cond (ltb n 18446744073709551615) (n + 1) n

-- "its next number rises": for the initiator of the message that it received, it is the number after that message's. A record has sixteen next
-- numbers: of a station beyond them it has none, and stays as it is
abbrev pub received : Cart → Station → MessageNumber → Cart
received k initiator n = record { place = k.place; next = set k.next initiator.0 (number_after n.0); steady = k.steady }

-- a cart's record when it is told steady, or not
abbrev pub told : Cart → Bool → Cart
told k steady = record { place = k.place; next = k.next; steady = steady }

-- "all next numbers 0"
abbrev pub all_zero : List ℕ
all_zero = list_of 16 (λ s. 0)

-- a cart's record when it goes back to the factory: "the number becomes outside", and "may enter again, with all next numbers 0". Nobody reads the flag of
-- a cart that is outside
abbrev pub retired : Cart → Cart
retired k = record { place = Outside; next = all_zero; steady = k.steady }
