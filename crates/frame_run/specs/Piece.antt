-- THE RUN OVER A PIECE OF INPUT: the first frames of these octets, from a floor and an index; "Refusals 1 to 4 end the run". The steps go by
-- the product's limits. What a frame is does not: of the limits it asks the longest texts alone, 32 and 512 octets in every product.
use Rattle.std.specs.Prelude.{Bool, true, false, List, [], ◌∷◌, ◌++◌, ℕ, zero, suc, ◌+◌, drop}
use Rattle.protocol.specs.Floor.{Product, Floor, limits, limits_of}
use Rattle.protocol.specs.Events.{Event, refused}
use Rattle.protocol.specs.Step.{step, answer}
use Rattle.protocol.specs.Frames.{end, refused_frame, taken, frame_of}
use Rattle.protocol.specs.Printed.{line_of}

-- what so many frames printed, how many there were, the floor that they left, how many octets they took, and whether one of them ended the run
pub record Ran : Type 0 where
  pub count : ℕ
  pub printed : List ℕ
  pub floor : Floor
  pub octets : ℕ
  pub ended : Bool

-- nothing was read
abbrev pub still : Floor → Ran
still F = record { count = 0; printed = []; floor = F; octets = 0; ended = false }

-- so many frames of these octets, or as many as there are
unfoldable pub run_from : Product → ℕ → Floor → ℕ → List ℕ → Ran
run_from P zero F index l = still F
run_from P (suc n) F index l =
    elim (frame_of limits l) [
      | end ↦ still F
      | refused_frame r ↦ record { count = 1; printed = line_of index (refused r); floor = F; octets = 0; ended = true }
      | taken e size ↦
          let rest = run_from P n (step (limits_of P) F e) (suc index) (drop size l) in
          record { count = suc rest.count; printed = line_of index (answer (limits_of P) F e) ++ rest.printed; floor = rest.floor; octets = size + rest.octets; ended = rest.ended }
    ]

-- the events of the first n frames of these octets, up to one that is refused
unfoldable pub events_from : ℕ → List ℕ → List Event
events_from zero l = []
events_from (suc n) l = elim (frame_of limits l) [ end ↦ [] | refused_frame r ↦ [] | taken e size ↦ e ∷ events_from n (drop size l) ]
