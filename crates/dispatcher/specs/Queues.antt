-- WHICH STATIONS HAVE AN ENTRY IN THEIR QUEUE, in a word that is kept from step to step.
use Rattle.std.specs.Prelude.{◌≡◌, true, false, List, ℕ, ◌<◌}
use Rattle.protocol.specs.CartSets.{has}
use Rattle.stations.specs.View.{head_in, stations_in, entries_in}
use Rattle.dispatcher.specs.Busy.{with_if_any}

-- of a floor whose stations are these words: the set has stations of the floor, and none that it lacks has an entry
pub record QueuedIn (S : List ℕ) (queued : ℕ) : Type 0 where
  pub on_floor : (t : ℕ) → has queued t ≡ true → t < (head_in S).stations
  pub others : (t : ℕ) → t < (head_in S).stations → has queued t ≡ false → (m : ℕ) → (stations_in S).queue m t ≡ 0

-- once the queue of station t is looked at
abbrev pub queued_with : List ℕ → ℕ → ℕ → ℕ
queued_with S queued t = with_if_any queued t (entries_in S t)
