-- What an accepted event looks for is there: a free room, the head record of its line and the room of that record's message, the head of a
-- queue.
use mathlib.Core.Path.{◌≡◌}
use mathlib.Core.Option.{some}
use mathlib.Core.List.{List, ◌∷◌}
use Prim.Native.Nat.{ℕ}
use Rattle.protocol.specs.Floor.{Floor, Limits, Record, ack_list, delete, multicast}
use Rattle.protocol.specs.Handoff.{room_of}
use Rattle.protocol.specs.Claims.{All}
use Rattle.protocol.proofs.Accepted.{MayWire}
use Rattle.protocol.proofs.Invariant.{Held}
use Rattle.protocol.proofs.LineFacts.{HeldRecord}
use Rattle.protocol.proofs.FormFacts.{FormFacts, room_of_held}

module _ (M : Limits) (F : Floor) (X : FormFacts M F) where
  -- a message that is held has its room
  room_of_lem : (m s n : ℕ) → Held M F.waiting m → F.initiator m ≡ s → F.number m ≡ n → (k : ℕ) × (room_of M F s n ≡ some k)
  room_of_lem m s n h a b = (m, let z = room_of_held M F X m h in rw (a, b) at z)

  -- what the head record of a line says
  head_holds : (i j : ℕ) (r : Record) (l : List Record) → MayWire F i j r l → HeldRecord M F i j r
  head_holds i j r l may = let z = X.on_lines_lem.records_held i j may.from may.to in let y : All (HeldRecord M F i j) (r ∷ l) = rw may.line at z in y.0

  pub multicast_room : (i j n : ℕ) (l : List Record) → MayWire F i j (multicast n) l → (m : ℕ) × (room_of M F i n ≡ some m)
  multicast_room i j n l may = let g = head_holds i j (multicast n) l may in room_of_lem g.m i n g.held g.is_initiator g.is_number

  pub ack_list_room : (i j n carts : ℕ) (l : List Record) → MayWire F i j (ack_list n carts) l → (m : ℕ) × (room_of M F j n ≡ some m)
  ack_list_room i j n carts l may = let g = (head_holds i j (ack_list n carts) l may).0 in room_of_lem g.m j n g.held g.is_initiator g.is_number

  pub delete_room : (i j n : ℕ) (l : List Record) → MayWire F i j (delete n) l → (m : ℕ) × (room_of M F i n ≡ some m)
  delete_room i j n l may = let g = (head_holds i j (delete n) l may).0 in room_of_lem g.m i n g.held g.is_initiator g.is_number
