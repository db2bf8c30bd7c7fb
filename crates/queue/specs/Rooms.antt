-- THE ROOMS OF THE HELD MESSAGES, and one of them or none.
use Rattle.std.specs.Prelude.{◌≡◌, Option, None, Some, cond, List, [], ℕ, ◌/◌, ◌<◌, ◌≤◌, length, ltb}
use Rattle.std.proofs.Math.Option as math
use Rattle.protocol.specs.Floor.{Floor, whole_floor}
use Rattle.messages.specs.View.{HasRoom}
use Rattle.view.specs.View.{lent, floor_in}

-- the floor that the stations and the messages say: a queue and a catch-up ask for no other part
abbrev pub tables_floor : List ℕ → List ℕ → Floor
tables_floor stations messages = floor_in (lent whole_floor stations [] messages [] [] [])

-- how many rooms the messages' table has
abbrev pub room_count : List ℕ → ℕ
room_count messages = length messages / 7

-- no more than a station's row has words for
abbrev pub HasRooms : List ℕ → Type 0
HasRooms messages = room_count messages ≤ 32

-- the messages' table has a row for each room that has an entry in the queue at t
abbrev pub QueueRooms : List ℕ → List ℕ → ℕ → Type 0
QueueRooms stations messages t = (m : ℕ) → m < 32 → ((tables_floor stations messages).queue m t ≡ 0 → ⊥) → HasRoom messages m

-- a room, or none, as the code has it
abbrev pub room_code : math.Option ℕ → Option ℕ
room_code math.none = None
room_code (math.some m) = Some m

-- and as the floor has it
abbrev pub room_in : Option ℕ → math.Option ℕ
room_in None = math.none
room_in (Some m) = math.some m

-- a room, or none, in a word: 32 is none
abbrev pub room_word : math.Option ℕ → ℕ
room_word math.none = 32
room_word (math.some m) = m

-- the room, or none, that a word says
abbrev pub room_at : ℕ → math.Option ℕ
room_at word = cond (ltb word 32) (math.some word) math.none
