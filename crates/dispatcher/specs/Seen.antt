-- WHAT IS KEPT, AFTER A STEP, by the lines and the queues that it left.
use Rattle.std.specs.Prelude.{List, ℕ, ◌<◌}
use Rattle.protocol.specs.Floor.{Record}
use Rattle.stations.specs.View.{HasStation}
use Rattle.dispatcher.specs.declared.Step.{Step}
use Rattle.dispatcher.specs.declared.Step.TheVariants.{Wire, Radio}
use Rattle.dispatcher.specs.Busy.{Busy, taken_off, renewed}
use Rattle.dispatcher.specs.Queues.{queued_with}

-- words are there for the stations of the step
abbrev pub HasPlaces : List ℕ → Step → Type 0
HasPlaces S (Wire i j) = (i.0 < 16) × (j.0 < 16) × HasStation S j.0
HasPlaces S (Radio t c) = (t.0 < 16) × HasStation S t.0

-- which lines are not empty: a wire step took a record off its line, and so many were put on lines from the station where it happened
abbrev pub busy_after : (ℕ → ℕ → List Record) → Busy → Step → ℕ → Busy
busy_after lines b (Wire i j) records = renewed lines (taken_off lines b i.0 j.0) j.0 records
busy_after lines b (Radio t c) records = renewed lines b t.0 records

-- which stations have an entry: the queue there is looked at
abbrev pub queued_after : List ℕ → ℕ → Step → ℕ
queued_after S queued (Wire i j) = queued_with S queued j.0
queued_after S queued (Radio t c) = queued_with S queued t.0
