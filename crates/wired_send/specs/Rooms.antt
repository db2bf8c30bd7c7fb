-- A ROOM FOR A NEW MESSAGE.
use Rattle.std.specs.Prelude.{Option, List, ℕ, eqb}
use Rattle.protocol.specs.Folds.{first}
use Rattle.messages.specs.View.{rooms_in}
use Rattle.queue.specs.Rooms.{room_code}

-- "Its room is then used again": the first of these rooms that no station waits for any more
unfoldable pub first_free : ℕ → List ℕ → Option ℕ
first_free held messages = room_code (first held (λ m. eqb ((rooms_in messages).waiting m) 0))
