-- HOW FAR A PIECE OF INPUT WAS RUN: the frames taken from its front, and the calls in the rows of the table.
use Rattle.std.specs.Prelude.{◌≡◌, Bool, Option, List, ℕ, ◌<◌, ◌≤◌, eqb, length}
use Rattle.std.proofs.Math.Option as math
use Rattle.protocol.specs.Floor.{Floor, limits, limits_of}
use Rattle.protocol.specs.Events.{Event}
use Rattle.protocol.specs.Step.{step}
use Rattle.protocol.specs.Frames.{read_at}
use Rattle.protocol.specs.PlainLists.{PlainCall, call_of}
use Rattle.view.specs.View.{Lent, floor_in}
use Rattle.event_answers.specs.Met.{Ready}
use Rattle.frame_run.specs.declared.Progress.{Progress}
use Rattle.frame_run.specs.Stops.{stop_number}
use Rattle.frame_run.specs.Piece.{Ran, run_from}
use Rattle.frame_run.specs.Went.{NoneWhole, EndsRun}
use Rattle.training_rows.specs.declared.Call.{Call}
use Rattle.training_rows.specs.Calls.{calls_in, made_in, made_by, TextsIn}
use Rattle.training_calls.specs.Calls.{calls_from}

-- the state of a run R whose frames made the calls `made`: the floor that L says, and a row for each frame
pub record InCalls (input : List ℕ) (R : Ran) (made : List (math.Option PlainCall)) (L : Lent) (calls : List ℕ) (p : Progress) : Type 0 where
  pub floor : floor_in L ≡ R.floor
  pub counted : p.frames ≡ R.count
  pub read : p.read ≡ R.octets
  pub ended : R.ended ≡ eqb (stop_number p.state) 2
  pub rows : made_by input (calls_in calls) p.frames ≡ made

-- THE PIECE WAS RUN, from L to L': as many frames as are counted, which is the written run over them, whatever the index of the first one; their calls
-- are in the rows. It stopped because a frame was refused (2), because no whole frame is left (1), or because the table has no row for another frame (0)
pub record Gone (input : List ℕ) (last : Bool) (L L' : Lent) (calls : List ℕ) (p : Progress) : Type 0 where
  pub product : L'.product ≡ L.product
  pub ready : Ready L'
  pub run : (first : ℕ) → InCalls input (run_from L.product p.frames (floor_in L) first input) (calls_from L.product p.frames (floor_in L) input) L' calls p
  pub texts : TextsIn input calls p.frames
  pub inside : p.read ≤ length input
  pub few : p.frames ≤ 1024
  pub why : stop_number p.state ≤ 2
  pub waits : stop_number p.state ≡ 1 → NoneWhole last (read_at limits input p.read)
  pub ends : stop_number p.state ≡ 2 → EndsRun last (read_at limits input p.read)
  pub full : stop_number p.state ≡ 0 → p.frames ≡ 1024

-- ONE EVENT of a frame was taken: the floor is the written one, and the call is what the event makes on the floor before it
pub record Made (input : List ℕ) (L L' : Lent) (e : Event) (call : Option Call) : Type 0 where
  pub product : L'.product ≡ L.product
  pub ready : Ready L'
  pub floor : floor_in L' ≡ step (limits_of L.product) (floor_in L) e
  pub makes : made_in input call ≡ call_of (limits_of L.product) (floor_in L) e

-- ONE FRAME, or none where none is whole; in every run that p is the state of
pub record Turned (input : List ℕ) (last : Bool) (L L' : Lent) (calls calls' : List ℕ) (p r : Progress) : Type 0 where
  pub product : L'.product ≡ L.product
  pub ready : Ready L'
  pub runs : (F : Floor) (first : ℕ) → InCalls input (run_from L.product p.frames F first input) (calls_from L.product p.frames F input) L calls p
      → InCalls input (run_from L.product r.frames F first input) (calls_from L.product r.frames F input) L' calls' r
  pub texts : TextsIn input calls p.frames → TextsIn input calls' r.frames
  pub kept : length calls' ≡ length calls
  pub inside : r.read ≤ length input
  pub few : r.frames ≤ 1024
  pub onward : stop_number r.state ≡ 0 → p.read < r.read
  pub stays : p.read ≤ r.read
  pub why : stop_number r.state ≤ 2
  pub waits : stop_number r.state ≡ 1 → NoneWhole last (read_at limits input r.read)
  pub ends : stop_number r.state ≡ 2 → EndsRun last (read_at limits input r.read)
