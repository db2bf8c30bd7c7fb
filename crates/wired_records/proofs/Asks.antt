-- WHAT THE STEPS ASK holds on a floor that passes the form rule, once the head of the line is off it: the room that it says is there, numbers
-- are in range, and the lines have room.
use mathlib.Core.Path.{◌≡◌, sym, ap, ◌∙◌}
use mathlib.Core.Bool.{true}
use mathlib.Core.List.{List, ◌∷◌}
use Prim.Native.Nat.{ℕ, ◌+◌, ◌*◌, ◌≤◌, ◌<◌}
use native.Mathlib.Omega.{arith}
use Rattle.protocol.specs.CartSets.{has, union, set_of}
use Rattle.protocol.specs.Floor.{Product, limits_of, local_to}
use Rattle.protocol.proofs.SetLaws.{has_set_of, set_of_lt, member_below}
use Rattle.carts.specs.Words.{HasRow}
use Rattle.carts.specs.View.{carts_in}
use Rattle.stations.specs.View.{HasStation, head_in, stations_in}
use Rattle.messages.specs.View.{HasRoom, rooms_in}
use Rattle.queue.specs.Rooms.{HasRooms}
use Rattle.lines.specs.declared.Record as word
use Rattle.lines.specs.Form.{form}
use Rattle.lines.specs.Lines.{records_on, used}
use Rattle.lines.specs.Words.{capacity}
use Rattle.lines.specs.Post.{Popped}
use Rattle.view.specs.Records.{kind_of, index_of, number_of}
use Rattle.view.specs.View.{Lent, lent, floor_in}
use Rattle.view.proofs.Standing.{Standing, few_stations, numbers_of_32_bits}
use Rattle.wired_records.proofs.Head.{InRoom, from_below, to_below, multicast_room, ack_list_room, delete_room, number_below}
use Rattle.wired_records.proofs.AckListIs.{room_for_deletes}
use Rattle.wired_records.proofs.MulticastSets.{local_entered}

module _ {P : Product} (S C M W W₁ T O : List ℕ) (X : Standing (lent P S C M W T O)) (i j : ℕ) (from : i < (head_in S).stations) (to : j < (head_in S).stations)
    (said : word.Record) (rest : List word.Record) (top : records_on W (i * 16 + j) ≡ said ∷ rest) (popped : Popped W W₁ (i * 16 + j)) where
  abbrev L : Lent
  L = lent P S C M W T O

  abbrev m : ℕ
  m = index_of said.0

  abbrev n : ℕ
  n = number_of said.0

  -- the room of a held message is in the table
  has_room : (s : ℕ) → InRoom (limits_of P) (floor_in L) s n m → HasRoom M m
  has_room s h = let a = h.held.slot in let b = X.lengths.messages in omega arith

  -- and the table has no more rooms than a station's row has words for
  has_rooms : HasRooms M
  has_rooms = let a = X.lengths.messages in let b = P.held_fit in omega arith

  -- a local cart is on the floor, so it has a row
  local_rows : (c : ℕ) → has ((stations_in S).local j) c ≡ true → HasRow C c
  local_rows c h =
      let on = set_of 64 (λ d. local_to ((carts_in C).place d) j) in
      let mask : (stations_in S).local j ≡ on = X.laid.local j (let a = to in let b = X.sized.counts.stations in omega arith) in
      let h' : has on c ≡ true = ap (λ (x : ℕ). has x c) (sym mask) ∙ h in
      let below = member_below 64 on c (set_of_lt 64 (λ d. local_to ((carts_in C).place d) j)) h' in
      let here : local_to ((carts_in C).place c) j ≡ true = sym (has_set_of 64 (λ d. local_to ((carts_in C).place d) j) c below) ∙ h' in
      let real = X.facts.real c (local_entered ((carts_in C).place c) j here) in
      let most = X.sized.counts.carts in
      let rows = X.lengths.carts in
      omega arith

  pub multicast_asks : kind_of said.0 ≡ 1
      → (HasStation S j × (i < 16) × ((stations_in S).expected j i < 4294967296)) × (((c : ℕ) → has ((stations_in S).local j) c ≡ true → HasRow C c) × HasRoom M m × (m < 32) × (n < 4294967296) × HasRooms M)
  multicast_asks k =
      let room = multicast_room L X i j from to said rest top k in
      let words = X.lengths.stations in
      let below = to_below L X i j from to in
      ((omega arith, from_below L X i j from to, (numbers_of_32_bits L X).expected j i to), (local_rows, has_room i room, room.below, number_below L X i n m room, has_rooms))

  pub delete_asks : kind_of said.0 ≡ 3 → HasRoom M m × (j < 16)
  delete_asks k = (has_room i (delete_room L X i j from to said rest top k), to_below L X i j from to)

  pub ack_list_asks : kind_of said.0 ≡ 2
      → (HasRoom M m × (m < 32) × (n < 4294967296)) × (((j < 16) × ((head_in S).stations ≤ 16) × (form W₁ ≡ true))
      × (union ((rooms_in M).acked m) said.1 ≡ (rooms_in M).named m → used W₁ + (head_in S).stations ≤ capacity W₁))
  ack_list_asks k =
      let room = ack_list_room L X i j from to said rest top k in (
        (has_room j room, room.below, number_below L X j n m room),
        ((to_below L X i j from to, few_stations L X, popped.formed), room_for_deletes S C M W W₁ T O X i j from to said rest top k popped),
      )
