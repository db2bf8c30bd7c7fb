-- WHAT AN ARRIVAL LEAVES at the stations (S, then S') and in the carts (C, then C'); M has the messages.
use Rattle.std.specs.Prelude.{◌≡◌, true, List, ℕ, length}
use Rattle.protocol.specs.Folds.{list_of, update}
use Rattle.protocol.specs.CartSets.{with}
use Rattle.protocol.specs.Floor.{at}
use Rattle.stations.specs.View.{Stations, stations_in, head_in, with_local}
use Rattle.carts.specs.Records.{all_zero}
use Rattle.carts.specs.View.{carts_in, canonical_in, with_place, with_row}
use Rattle.messages.specs.View.{rooms_in}
use Rattle.queue.specs.Rooms.{tables_floor, room_count}
use Rattle.catchup.specs.Arrival.{nearest_row, stop_in, risen, occurs, queued_for, deepest_to}
use Rattle.handoff.specs.Flagged.{Flagged}
use Rattle.handoff.specs.Struck.{struck_from}

-- cart c is on the local list of station t
abbrev pub settled : Stations → ℕ → ℕ → Stations
settled S t c = with_local S t (with (S.local t) c)

-- cart c is queued at station t for each nearest message, and is on the local list
abbrev pub joined : Stations → ℕ → ℕ → List ℕ → Stations
joined S t c nearest = settled (queued_for S t c (occurs nearest 16)) t c

-- cart c, with that row of next numbers, is struck at station t from what it has passed, has caught up to the next numbers `upto`, and is local
pub record Docked (S S' M : List ℕ) (t c : ℕ) (row upto : List ℕ) (passed place : ℕ) : Type 0 where
  -- the words of the stations once it is struck
  pub struck : List ℕ
  pub is_struck_lem : stations_in struck ≡ struck_from (stations_in S) (rooms_in M) t c row
  -- the nearest message of each initiator there
  pub nearest : List ℕ
  pub is_nearest : nearest ≡ nearest_row (tables_floor struck M) t c row 32
  pub stations : stations_in S' ≡ joined (stations_in struck) t c nearest
  pub head : head_in S' ≡ head_in S
  pub table : length S' ≡ length S
  pub caught_up_lem : upto ≡ list_of 16 (stop_in (tables_floor struck M) t row nearest)
  pub count : passed ≡ risen (tables_floor struck M) t row nearest 16
  pub deepest : place ≡ deepest_to (stations_in struck) (rooms_in M) t c (room_count M) nearest 16

-- "and the cart is at this station"; so many numbers were passed over, and that was "the largest place given in that step"
pub record Arrived (S S' C C' M : List ℕ) (t c : ℕ) (row : List ℕ) (passed place : ℕ) : Type 0 where
  pub upto : List ℕ
  pub docked : Docked S S' M t c row upto passed place
  pub carts : carts_in C' ≡ with_row (with_place (carts_in C) c (at t)) c upto
  pub canonical : canonical_in C' ≡ update (canonical_in C) c true
  pub length : length C' ≡ length C

-- "A cart counts as steady from its entry": an arrival with all next numbers 0, and then the cart is told steady
pub record Entered (S S' C C' M : List ℕ) (t c passed place : ℕ) : Type 0 where
  -- the words of the carts once it is there
  pub there : List ℕ
  pub arrived : Arrived S S' C there M t c all_zero passed place
  pub steady : Flagged there C' c true
