-- THE HELD MESSAGES THAT A LENT TABLE HAS ROOMS FOR, and the rooms with one entry changed. Their texts are apart (Texts).
use Rattle.std.specs.Prelude.{List, ℕ}
use Rattle.protocol.specs.Folds.{update}
use Rattle.rows.specs.Rows.{cell, RowIn}

-- THE WORDS: each room has a row of seven, in the order in which rooms_of reads them

-- the words of a row
abbrev pub width : ℕ
width = 7

-- the table has a row for room m
abbrev pub HasRoom : List ℕ → ℕ → Type 0
HasRoom words m = RowIn width words m

-- THE ROOMS

-- what is kept for each room
pub record Rooms : Type 0 where
  -- "A message is named by its initiator and its number": of the message in room m
  pub initiator : ℕ → ℕ
  pub number : ℕ → ℕ
  -- "The initiator keeps the set as sent": the carts that it names
  pub named : ℕ → ℕ
  -- "Ack list: the initiator adds its carts": the carts known to have it
  pub acked : ℕ → ℕ
  -- "A message is held from its send until the last station has handled its delete": the stations that have not; none, and room m is free
  pub waiting : ℕ → ℕ
  -- "text 0 to 32 octets", or "33 to 512 octets": how many its text has
  pub length : ℕ → ℕ
  -- "Long texts lie in one store": where its text begins there, if it is long
  pub offset : ℕ → ℕ

-- by the words of each row
abbrev pub rooms_of : (ℕ → ℕ → ℕ) → Rooms
rooms_of W =
    record {
      initiator = λ m. W m 0;
      number = λ m. W m 1;
      named = λ m. W m 2;
      acked = λ m. W m 3;
      waiting = λ m. W m 4;
      length = λ m. W m 5;
      offset = λ m. W m 6;
    }

-- in a table: 0 beyond its rows
unfoldable pub rooms_in : List ℕ → Rooms
rooms_in words = rooms_of (cell width words)

-- nothing in any room
abbrev pub no_rooms : Rooms
no_rooms = record { initiator = λ m. 0; number = λ m. 0; named = λ m. 0; acked = λ m. 0; waiting = λ m. 0; length = λ m. 0; offset = λ m. 0 }

-- ONE ROOM CHANGED

-- other carts are known to have the message in room m
abbrev pub with_acked : Rooms → ℕ → ℕ → Rooms
with_acked R m carts =
    record {
      initiator = R.initiator;
      number = R.number;
      named = R.named;
      acked = update R.acked m carts;
      waiting = R.waiting;
      length = R.length;
      offset = R.offset;
    }

-- other stations have yet to handle its delete
abbrev pub with_waiting : Rooms → ℕ → ℕ → Rooms
with_waiting R m stations =
    record {
      initiator = R.initiator;
      number = R.number;
      named = R.named;
      acked = R.acked;
      waiting = update R.waiting m stations;
      length = R.length;
      offset = R.offset;
    }

-- other places in the store for the texts of all rooms
abbrev pub with_offsets : Rooms → (ℕ → ℕ) → Rooms
with_offsets R offset =
    record {
      initiator = R.initiator;
      number = R.number;
      named = R.named;
      acked = R.acked;
      waiting = R.waiting;
      length = R.length;
      offset = offset;
    }

-- for that of room m
abbrev pub with_offset : Rooms → ℕ → ℕ → Rooms
with_offset R m offset = with_offsets R (update R.offset m offset)

-- "the message takes the station's number": a new message in room m, that no cart is known to have
abbrev pub with_message : Rooms → ℕ → ℕ → ℕ → ℕ → ℕ → ℕ → ℕ → Rooms
with_message R m initiator number named waiting length offset =
    record {
      initiator = update R.initiator m initiator;
      number = update R.number m number;
      named = update R.named m named;
      acked = update R.acked m 0;
      waiting = update R.waiting m waiting;
      length = update R.length m length;
      offset = update R.offset m offset;
    }
