-- A PART LENT TO ANOTHER PRODUCT: "Refusals 5 (form rule and lent lengths), 7 and 14 use the caller's limits".
use Rattle.std.specs.Prelude.{◌≡◌, ◌⊎◌, ◌≤◌, ◌<◌, length}
use Rattle.protocol.specs.Events.{Event, start, enter, send, wire, radio, move, flag, group, send_group, send_long, retire}
use Rattle.view.specs.View.{Lent}

-- one of the parts of K is lent in L, whatever the others are. The store is of 4,096 octets in every product, so it is right for each
abbrev pub SharesPart : Lent → Lent → Type 0
SharesPart K L =
    (L.stations ≡ K.stations)
    ⊎ ((L.carts ≡ K.carts) ⊎ ((L.messages ≡ K.messages) ⊎ ((L.lines ≡ K.lines) ⊎ (L.texts ≡ K.texts))))

-- 4 is met before 5: an event with no text that is longer than 32 octets, or, of a long send, not of 33 to 512
abbrev pub FitText : Event → Type 0
FitText (start n k) = Unit {0}
FitText (enter t c) = Unit {0}
FitText (send s set text) = length text ≤ 32
FitText (wire i j) = Unit {0}
FitText (radio t c buffer) = Unit {0}
FitText (move c to) = Unit {0}
FitText (flag c b) = Unit {0}
FitText (group g set) = Unit {0}
FitText (send_group s g text) = length text ≤ 32
FitText (send_long s set text) = (32 < length text) × (length text ≤ 512)
FitText (retire c) = Unit {0}
