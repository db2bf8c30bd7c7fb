-- ACK LISTS FORWARDED at a hand-off: which go, what is left at the stations, and the lines (W, then W') that they are put on.
use Rattle.std.specs.Prelude.{◌≡◌, Bool, cond, not, ◌&&◌, List, [], ◌∷◌, ℕ, ◌+◌, ◌*◌, ◌≤◌, eqb, ltb, length}
use Rattle.protocol.specs.CartSets.{has, minus}
use Rattle.protocol.specs.Deregister.{in_order}
use Rattle.stations.specs.View.{Stations, stations_in, head_in}
use Rattle.messages.specs.View.{Rooms, rooms_in}
use Rattle.lines.specs.Post.{Pushed}
use Rattle.view.specs.Records.{words_of}
use Rattle.queue.specs.Rooms.{tables_floor, room_count}
use Rattle.queue.specs.Keys.{InKey}
use Rattle.wireless.specs.Handed.{hold_none}

-- what is asked of the messages: no more rooms than a station's row has words for, nothing held beyond them, and a key for each that is held
pub record HeldRooms (M : List ℕ) : Type 0 where
  pub few : room_count M ≤ 32
  pub none_beyond : (m : ℕ) → room_count M ≤ m → (rooms_in M).waiting m ≡ 0
  pub keyed : (m : ℕ) → ((rooms_in M).waiting m ≡ 0 → ⊥) → InKey ((rooms_in M).number m) ((rooms_in M).initiator m)

-- does the list of the message in room m go from station t: that is buffered there, and "its ack list is not empty and holds every local cart in
-- the copy"
abbrev pub goes : Stations → Rooms → ℕ → ℕ → Bool
goes S R t m = (has (R.waiting m) t && ltb (R.number m) (S.expected t (R.initiator m))) && (not (eqb (S.acks m t) 0) && hold_none S m t)

-- "in queue order (smallest number, then higher initiator)": the rooms that are picked
abbrev pub ordered_rooms : List ℕ → (ℕ → Bool) → List ℕ
ordered_rooms M pick = in_order (tables_floor [] M) pick 32

-- "struck and emptied": the lists at t of the rooms that are picked
abbrev pub emptied : Stations → ℕ → (ℕ → Bool) → Stations
emptied S t pick =
    record {
      sent = S.sent;
      expected = S.expected;
      local = S.local;
      copy = λ m u. cond (eqb u t && pick m) (minus (S.copy m u) (S.acks m u)) (S.copy m u);
      acks = λ m u. cond (eqb u t && pick m) 0 (S.acks m u);
      queue = S.queue;
    }

-- "the list is sent": those at t of these rooms, each to its initiator, one behind the other
abbrev pub PushedEach : Stations → Rooms → ℕ → List ℕ → List ℕ → List ℕ → Type 0
PushedEach S R t [] W W' = W' ≡ W
PushedEach S R t (m ∷ l) W W' = (W₁ : List ℕ) × (Pushed W W₁ (t * 16 + R.initiator m) (words_of 2 m (R.number m) (S.acks m t)) × PushedEach S R t l W₁ W')

-- the lists at t of the rooms that are picked have gone, w of them, and the stations are S' then
pub record ListsGone (S S' M W W' : List ℕ) (t : ℕ) (pick : ℕ → Bool) (w : ℕ) : Type 0 where
  pub stations : stations_in S' ≡ emptied (stations_in S) t pick
  pub head : head_in S' ≡ head_in S
  pub words : length S' ≡ length S
  pub lines : PushedEach (stations_in S) (rooms_in M) t (ordered_rooms M pick) W W'
  pub count : w ≡ length (ordered_rooms M pick)
