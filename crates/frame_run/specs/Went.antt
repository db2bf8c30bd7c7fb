-- HOW FAR A PIECE OF INPUT WAS RUN: the frames taken from its front, and the octets written to the front of the output.
use Rattle.std.specs.Prelude.{◌≡◌, Bool, true, false, List, ℕ, ◌+◌, ◌<◌, ◌≤◌, eqb, length}
use Rattle.protocol.specs.Floor.{Floor, limits, limits_of}
use Rattle.protocol.specs.Events.{Event}
use Rattle.protocol.specs.Step.{step, answer}
use Rattle.protocol.specs.Frames.{Reading, end, refused_frame, taken, read_at}
use Rattle.protocol.specs.Printed.{line_of}
use Rattle.view.specs.View.{Lent, floor_in}
use Rattle.event_answers.specs.Met.{Ready}
use Rattle.frame_lines.specs.Lines.{written, Wrote, longest_line, line_room}
use Rattle.frame_run.specs.declared.Progress.{Progress}
use Rattle.frame_run.specs.Stops.{stop_number}
use Rattle.frame_run.specs.Piece.{Ran, run_from}

-- the state of a run: the floor that L says, and the lines at the front of the output, which was out₀ before
pub record InRun (R : Ran) (L : Lent) (out₀ out : List ℕ) (p : Progress) : Type 0 where
  pub floor : floor_in L ≡ R.floor
  pub counted : p.frames ≡ R.count
  pub read : p.read ≡ R.octets
  pub wrote : p.written ≡ length R.printed
  pub fits : p.written ≤ length out₀
  pub octets : out ≡ written out₀ 0 R.printed
  pub ended : R.ended ≡ eqb (stop_number p.state) 2

-- no whole frame is left: no octet is, or "fewer than 16 octets left", or "fewer text octets than the length", and more input may come
abbrev pub NoneWhole : Bool → Reading → Type 0
NoneWhole last end = Unit {0}
NoneWhole last (refused_frame r) = (r ≡ 1) × (last ≡ false)
NoneWhole last (taken e size) = ⊥

-- a frame that ends the run: one that is cut ends it only where the input ends
abbrev pub EndsRun : Bool → Reading → Type 0
EndsRun last end = ⊥
EndsRun last (refused_frame r) = r ≡ 1 → last ≡ true
EndsRun last (taken e size) = ⊥

-- THE PIECE WAS RUN, from L and the output out, to L' and out', over floors of one sort (Kept), so that the next piece can go on with what is left: as many
-- frames as are counted, which is the written run over them. It stopped because a frame was refused (2), because no whole frame is left (1), or because the
-- output has no room for another line (0). One thing is left open: where no whole frame is left and the output has no room either, 0 and 1 are both right. The
-- rules say what is printed, not when; after 0 the run goes on with the same octets and an empty output, prints nothing, and says 1
pub record WentOn (Kept : Lent → Type 0) (input : List ℕ) (index : ℕ) (last : Bool) (L L' : Lent) (out out' : List ℕ) (p : Progress) : Type 0 where
  pub product : L'.product ≡ L.product
  pub ready : Kept L'
  pub run : InRun (run_from L.product p.frames (floor_in L) index input) L' out out' p
  pub inside : p.read ≤ length input
  pub few : p.frames ≤ p.read + 1
  pub within : p.written ≤ length out
  pub kept : length out' ≡ length out
  pub why : stop_number p.state ≤ 2
  pub waits : stop_number p.state ≡ 1 → NoneWhole last (read_at limits input p.read)
  pub ends : stop_number p.state ≡ 2 → EndsRun last (read_at limits input p.read)
  pub full : stop_number p.state ≡ 0 → length out < p.written + line_room

-- the run over a floor that events can go on with
abbrev pub Went : List ℕ → ℕ → Bool → Lent → Lent → List ℕ → List ℕ → Progress → Type 0
Went input index last L L' out out' p = WentOn Ready input index last L L' out out' p

-- ONE EVENT of a frame was taken, with its index: the floor and the line are the written ones
pub record TookOn (Kept : Lent → Type 0) (index : ℕ) (L L' : Lent) (out out' : List ℕ) (p r : Progress) (e : Event) (size : ℕ) : Type 0 where
  pub product : L'.product ≡ L.product
  pub ready : Kept L'
  pub floor : floor_in L' ≡ step (limits_of L.product) (floor_in L) e
  pub line : Wrote longest_line (line_of index (answer (limits_of L.product) (floor_in L) e)) out out' p.written r.written
  pub read : r.read ≡ p.read + size
  pub frames : r.frames ≡ p.frames + 1
  pub state : stop_number r.state ≡ 0

abbrev pub Took : ℕ → Lent → Lent → List ℕ → List ℕ → Progress → Progress → Event → ℕ → Type 0
Took index L L' out out' p r e size = TookOn Ready index L L' out out' p r e size

-- ONE FRAME, with its index, or none where none is whole; in every run that p is the state of, whatever its first index
pub record TurnedOn (Kept : Lent → Type 0) (input : List ℕ) (index : ℕ) (last : Bool) (L L' : Lent) (out out' : List ℕ) (p r : Progress) : Type 0 where
  pub product : L'.product ≡ L.product
  pub ready : Kept L'
  pub runs : (F : Floor) (first : ℕ) (out₀ : List ℕ) → index ≡ first + p.frames
      → InRun (run_from L.product p.frames F first input) L out₀ out p → InRun (run_from L.product r.frames F first input) L' out₀ out' r
  pub inside : r.read ≤ length input
  pub within : r.written ≤ length out
  pub kept : length out' ≡ length out
  pub few : stop_number r.state ≡ 0 → r.frames ≤ r.read
  pub counted : r.frames ≤ r.read + 1
  pub onward : stop_number r.state ≡ 0 → p.read < r.read
  pub stays : p.read ≤ r.read
  pub why : stop_number r.state ≤ 2
  pub waits : stop_number r.state ≡ 1 → NoneWhole last (read_at limits input r.read)
  pub ends : stop_number r.state ≡ 2 → EndsRun last (read_at limits input r.read)

abbrev pub Turned : List ℕ → ℕ → Bool → Lent → Lent → List ℕ → List ℕ → Progress → Progress → Type 0
Turned input index last L L' out out' p r = TurnedOn Ready input index last L L' out out' p r
