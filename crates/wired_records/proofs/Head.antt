-- THE HEAD OF A LINE, in words, and the message that it is of: its room is the one that the record says.
use mathlib.Core.Path.{◌≡◌, refl}
use mathlib.Core.Bool.{true, false}
use mathlib.Core.Option.{some}
use mathlib.Core.List.{List, ◌∷◌, map}
use Prim.Native.Nat.{ℕ, ◌+◌, ◌*◌, ◌<◌}
use native.Mathlib.Omega.{arith}
use borrow.Author.Tests.{lt-leb}
use Rattle.protocol.specs.Floor.{Limits, Floor, multicast, ack_list, delete, limits_of}
use Rattle.protocol.specs.Events.{wire}
use Rattle.protocol.specs.Handoff.{room_of}
use Rattle.protocol.specs.Wired.{handle, on_wire}
use Rattle.protocol.specs.Refusals.{refusal, refusal_if}
use Rattle.protocol.specs.Step.{accept, step}
use Rattle.protocol.proofs.Tests.{clash, and_left}
use Rattle.protocol.proofs.Accepted.{unlined}
use Rattle.protocol.proofs.Invariant.{Held}
use Rattle.protocol.proofs.FormFacts.{room_of_held}
use Rattle.messages.specs.View.{rooms_in}
use Rattle.lines.specs.declared.Record as word
use Rattle.lines.specs.Lines.{records_on, registers_in}
use Rattle.view.specs.Records.{kind_of, index_of, number_of, record_in, is_in, room_right}
use Rattle.view.specs.View.{Lent, every_word, floor_in}
use Rattle.view.proofs.LinesView.{head_view}
use Rattle.view.proofs.Standing.{Standing, few_stations, held_number}
use Rattle.wired_records.proofs.LaidAgain.{room_says, taken_below}

-- the message n of s is held, in room m
pub record InRoom (N : Limits) (F : Floor) (s n m : ℕ) : Type 0 where
  pub below : m < 32
  pub held : Held N F.waiting m
  pub initiator : F.initiator m ≡ s
  pub number : F.number m ≡ n
  pub found : room_of N F s n ≡ some m

module _ (L : Lent) (X : Standing L) (i j : ℕ) (from : i < (floor_in L).stations) (to : j < (floor_in L).stations) where
  abbrev F : Floor
  F = floor_in L

  pub from_below : i < 16
  from_below = let z = few_stations L X in omega arith

  pub to_below : j < 16
  to_below = let z = few_stations L X in omega arith

  module _ (said : word.Record) (rest : List word.Record) (top : records_on L.lines (i * 16 + j) ≡ said ∷ rest) where
    pub line_head : F.lines i j ≡ record_in (registers_in L.lines) said ∷ map (record_in (registers_in L.lines)) rest
    line_head = head_view L.lines i j said rest from_below to_below top

    -- "Wire (from, to): the head record of that line is handled at to"
    pub wire_is : on_wire (limits_of L.product) F i j ≡ handle (limits_of L.product) (unlined F i j) i j (record_in (registers_in L.lines) said)
    unfolding on_wire
    wire_is = rw line_head refl

    -- nothing refuses it
    pub wire_steps : step (limits_of L.product) F (wire i j) ≡ (on_wire (limits_of L.product) F i j).floor
    unfolding step accept refusal refusal_if
    wire_steps = rw (X.passes, lt-leb F.stations i from, lt-leb F.stations j to, line_head) refl

    head_right : room_right (rooms_in L.messages) i j said ≡ true
    head_right =
        let z = X.laid.rooms i j from_below to_below in
        and_left (room_right (rooms_in L.messages) i j said) (every_word (room_right (rooms_in L.messages) i j) rest) (rw top at z)

    in_room_lem : (s : ℕ) → is_in (rooms_in L.messages) s (number_of said.0) (index_of said.0) ≡ true → InRoom (limits_of L.product) F s (number_of said.0) (index_of said.0)
    in_room_lem s e =
        let m = index_of said.0 in
        let z = room_says (rooms_in L.messages) s (number_of said.0) m e in
        let slot : m < L.product.held = taken_below L X m z.0 in
        let below : m < 32 = (let k = L.product.held_fit in omega arith) in
        let held : Held (limits_of L.product) F.waiting m = record { slot = slot; some = z.0 } in
        record { below = below; held = held; initiator = z.1.0; number = z.1.1; found = rw (z.1.0, z.1.1) at (room_of_held (limits_of L.product) F X.facts m held) }

    -- there is no kind 0
    pub some_kind : kind_of said.0 ≡ 0 → ⊥
    unfolding room_right
    some_kind k = clash false (rw k at head_right) refl

    -- BY ITS KIND: what the record says, and its room
    pub says_multicast : kind_of said.0 ≡ 1 → record_in (registers_in L.lines) said ≡ multicast (number_of said.0)
    unfolding record_in
    says_multicast k = rw k refl

    pub multicast_room : kind_of said.0 ≡ 1 → InRoom (limits_of L.product) F i (number_of said.0) (index_of said.0)
    unfolding room_right
    multicast_room k = in_room_lem i (rw k at head_right)

    pub says_ack_list : kind_of said.0 ≡ 2 → record_in (registers_in L.lines) said ≡ ack_list (number_of said.0) said.1
    unfolding record_in
    says_ack_list k = rw k refl

    pub ack_list_room : kind_of said.0 ≡ 2 → InRoom (limits_of L.product) F j (number_of said.0) (index_of said.0)
    unfolding room_right
    ack_list_room k = in_room_lem j (rw k at head_right)

    pub says_delete : kind_of said.0 ≡ 3 → record_in (registers_in L.lines) said ≡ delete (number_of said.0)
    unfolding record_in
    says_delete k = rw k refl

    pub delete_room : kind_of said.0 ≡ 3 → InRoom (limits_of L.product) F i (number_of said.0) (index_of said.0)
    unfolding room_right
    delete_room k = in_room_lem i (rw k at head_right)

-- the number of a message in a room is one of 32 bits
pub number_below : (L : Lent) → Standing L → (s n m : ℕ) → InRoom (limits_of L.product) (floor_in L) s n m → n < 4294967296
number_below L X s n m h = let a = held_number L X m h.held in let d = h.number in omega arith
