-- A RUN OVER FRAMES FROM ANOTHER LANGUAGE: it is lent the frames (input) and room for their lines (output) beside what every call is lent.
use Rattle.std.specs.Prelude.{◌≡◌, Bool, cond, ◌||◌, List, ℕ, eqb, leb, length, set}
use Rattle.view.specs.View.{Lent}
use Rattle.frame_run.specs.declared.Progress.{Progress}
use Rattle.frame_run.specs.Stops.{stop_number}
use Rattle.tested_run.specs.Stuck.{RanAny}
use Rattle.mekhturia.specs.Status.{status_of, ByStatus}

-- 2 ^ 63: more octets than any memory has
abbrev pub far : ℕ
far = 9223372036854775808

-- the status: that of every call; and where it is 0, 3 if the first index or the length of the input is from 2 ^ 63 on
abbrev pub frames_status : ℕ → List ℕ → ℕ → List ℕ → ℕ
frames_status product out index input = cond (eqb (status_of product out) 0) (cond (leb far index || leb far (length input)) 3 0) (status_of product out)

-- why it stopped, the octets read and written, and the frames, in the first four words
abbrev pub frame_words : List ℕ → Progress → List ℕ
frame_words out p = set (set (set (set out 0 (stop_number p.state)) 1 p.read) 2 p.written) 3 p.frames

-- the piece was run, and the lent words out are then those of how far it went, out'
pub record RanFrames (input : List ℕ) (index : ℕ) (last : Bool) (L L' : Lent) (output output' out out' : List ℕ) : Type 0 where
  pub progress : Progress
  pub ran : RanAny input index last L L' output output' progress
  pub words : out' ≡ frame_words out progress

-- A RUN OVER FRAMES, from the lent parts L to L'
abbrev pub FramesByStatus : ℕ → ℕ → List ℕ → ℕ → Bool → Lent → Lent → List ℕ → List ℕ → List ℕ → List ℕ → Type 0
FramesByStatus r product input index last L L' output output' out out' =
    ByStatus r (frames_status product out index input) (RanFrames input index last L L' output output' out out') ((L' ≡ L) × (output' ≡ output) × (out' ≡ out))
