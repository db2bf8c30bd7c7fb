-- THE CALL THAT A FRAME MAKES, and those that the frames of a piece of input make.
use Rattle.std.specs.Prelude.{Option, None, Some, Result, Ok, Err, List, [], ◌∷◌, ℕ, zero, suc, ◌+◌, drop}
use Rattle.std.proofs.Math.Option as math
use Rattle.protocol.specs.Floor.{Product, Floor, limits, limits_of}
use Rattle.protocol.specs.Step.{step}
use Rattle.protocol.specs.Frames.{end, refused_frame, taken, frame_of}
use Rattle.protocol.specs.PlainLists.{PlainCall, call_of}
use Rattle.frames.specs.declared.Event.{Event}
use Rattle.frames.specs.declared.Event.TheVariants as event
use Rattle.refusals.specs.declared.Refusal.{Refusal}
use Rattle.frame_run.specs.declared.Done.{Done}
use Rattle.training_rows.specs.declared.Call.{Call}
use Rattle.training_rows.specs.declared.Call.TheVariants.{Start, Send, Take}

-- OF ONE FRAME

-- the members of the group that an event sends to
abbrev pub members_for : (ℕ → ℕ) → Event → ℕ
members_for groups (event.Start n k) = 0
members_for groups (event.Enter t c) = 0
members_for groups (event.Send s set n) = 0
members_for groups (event.Wire i j) = 0
members_for groups (event.Radio t c) = 0
members_for groups (event.Move c to) = 0
members_for groups (event.Flag c b) = 0
members_for groups (event.Group g set) = 0
members_for groups (event.SendGroup s g n) = groups g
members_for groups (event.SendLong s set n) = 0
members_for groups (event.Retire c) = 0

-- the call of an accepted event whose frame stands at a place; its text is behind the frame's sixteen octets
abbrev pub call_for : Event → ℕ → ℕ → ℕ → Option Call
call_for (event.Start n k) members initiator at = Some (Start n k)
call_for (event.Enter t c) members initiator at = None
call_for (event.Send s set n) members initiator at = Some (Send s set (at + 16) n)
call_for (event.Wire i j) members initiator at = None
call_for (event.Radio t c) members initiator at = Some (Take (record { 0 = initiator }) c)
call_for (event.Move c to) members initiator at = None
call_for (event.Flag c b) members initiator at = None
call_for (event.Group g set) members initiator at = None
call_for (event.SendGroup s g n) members initiator at = Some (Send s members (at + 16) n)
call_for (event.SendLong s set n) members initiator at = Some (Send s set (at + 16) n)
call_for (event.Retire c) members initiator at = None

-- by what the floor answered: a refused one makes none
abbrev pub call_told : Event → ℕ → Result Done Refusal → ℕ → Option Call
call_told e members (Ok done) at = call_for e members done.report.a at
call_told e members (Err refusal) at = None

-- OF THE FRAMES OF A PIECE: for each of the first n frames of these octets, from a floor, the call that it makes or none; a frame that is refused makes
-- none and ends the run
unfoldable pub calls_from : Product → ℕ → Floor → List ℕ → List (math.Option PlainCall)
calls_from P zero F l = []
calls_from P (suc n) F l =
    elim (frame_of limits l) [
      | end ↦ []
      | refused_frame r ↦ math.none ∷ []
      | taken e size ↦ call_of (limits_of P) F e ∷ calls_from P n (step (limits_of P) F e) (drop size l)
    ]
