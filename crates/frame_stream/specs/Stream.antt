-- THE STREAM: an input comes in reads, its frames are run as they become whole, and their lines are handed on. It is plain mathematics: the octets
-- that a read brought are a list, and so are those that are handed to be written.
use Rattle.std.specs.Prelude.{◌≡◌, Bool, true, false, cond, List, [], ◌∷◌, ◌++◌, ℕ, ◌+◌, ◌<◌, ◌≤◌, eqb, length, drop}
use Rattle.protocol.specs.Folds.{is_empty}
use Rattle.protocol.specs.Floor.{Product, Floor, limits, limits_of}
use Rattle.protocol.specs.Step.{floor_after}
use Rattle.protocol.specs.Frames.{Reading, end, refused_frame, taken, frame_of, read_at}
use Rattle.protocol.specs.Printed.{printed_run}
use Rattle.frame_lines.specs.Lines.{line_room}
use Rattle.frame_run.specs.Piece.{Ran, run_from, events_from}
use Rattle.frame_run.specs.Went.{NoneWhole, EndsRun}

-- between two turns: whose limits the steps go by, the octets that were read and not run yet, the floor, the next frame's index, what is to be done,
-- and whether the input has ended. To be done is a run (0), a read (1), or nothing, since the run is over (2) or a read or a write failed (3)
pub record Stream : Type 0 where
  pub product : Product
  pub left : List ℕ
  pub floor : Floor
  pub index : ℕ
  pub state : ℕ
  pub last : Bool

-- before the first read
abbrev pub begin : Product → Floor → Stream
begin P F = record { product = P; left = []; floor = F; index = 0; state = 1; last = false }

-- ONE TURN: a read brought these octets, none at the input's end; a read failed; or this many frames were run, the run stopped for this reason (`Stops`),
-- and their lines were handed on, and accepted or not
pub data Turn : Type 0 where
  brought : List ℕ → Turn
  failed : Turn
  ran : (frames why : ℕ) (accepted : Bool) → Turn

-- the run of the first n frames of what is left
abbrev pub piece : Stream → ℕ → Ran
piece S n = run_from S.product n S.floor S.index S.left

-- what is to be done after a run: nothing more where its lines were not accepted or a frame was refused; another run, where the lines filled the
-- output; else a read, if the input has not ended
abbrev pub state_after : ℕ → Bool → Bool → ℕ
state_after why last accepted = cond accepted (cond (eqb why 2) 2 (cond (eqb why 0) 0 (cond last 2 1))) 3

-- the stream after a turn
unfoldable pub after : Stream → Turn → Stream
after S (brought l) = record { product = S.product; left = S.left ++ l; floor = S.floor; index = S.index; state = 0; last = is_empty l }
after S failed = record { product = S.product; left = S.left; floor = S.floor; index = S.index; state = 3; last = S.last }
after S (ran n why accepted) =
    record {
      product = S.product;
      left = drop (piece S n).octets S.left;
      floor = (piece S n).floor;
      index = S.index + n;
      state = state_after why S.last accepted;
      last = S.last;
    }

-- the octets that a turn hands on to be written: the lines of the frames that it ran
unfoldable pub handed : Stream → Turn → List ℕ
handed S (brought l) = []
handed S failed = []
handed S (ran n why accepted) = (piece S n).printed

-- the octets that a turn brought
abbrev pub brought_in : Turn → List ℕ
brought_in (brought l) = l
brought_in failed = []
brought_in (ran n why accepted) = []

-- n frames are there, and the run stops behind them because a frame is refused (2), none is whole (1), or there is no room for another (0)
pub record Stops (S : Stream) (n why : ℕ) : Type 0 where
  pub counted : (piece S n).count ≡ n
  pub ended : (piece S n).ended ≡ eqb why 2
  pub known : why ≤ 2
  pub waits : why ≡ 1 → NoneWhole S.last (read_at limits S.left (piece S n).octets)
  pub ends : why ≡ 2 → EndsRun S.last (read_at limits S.left (piece S n).octets)

-- which turns can be made: a read where one is wanted, a run where there may be frames, and none once nothing is to be done. After how many frames there is
-- no room for another is said by `full`
unfoldable pub MayBy : (Stream → ℕ → Type 0) → Stream → Turn → Type 0
MayBy full S (brought l) = S.state ≡ 1
MayBy full S failed = S.state ≡ 1
MayBy full S (ran n why accepted) = (S.state ≡ 0) × Stops S n why × (why ≡ 0 → full S n)

-- ANY LIST OF TURNS, each from what the last one left
unfoldable pub TurnsBy : (Stream → ℕ → Type 0) → Stream → List Turn → Type 0
TurnsBy full S [] = Unit {0}
TurnsBy full S (t ∷ ts) = MayBy full S t × TurnsBy full (after S t) ts

-- the printed lines fill the output, which has 65,536 octets
abbrev pub lines_fill : Stream → ℕ → Type 0
lines_fill S n = 65536 < length (piece S n).printed + line_room

abbrev pub May : Stream → Turn → Type 0
May = MayBy lines_fill

abbrev pub Turns : Stream → List Turn → Type 0
Turns = TurnsBy lines_fill

-- the stream after them
unfoldable pub stream_after : Stream → List Turn → Stream
stream_after S [] = S
stream_after S (t ∷ ts) = stream_after (after S t) ts

-- all that they brought, and all that they handed on, one after the other
unfoldable pub brought_by : List Turn → List ℕ
brought_by [] = []
brought_by (t ∷ ts) = brought_in t ++ brought_by ts

unfoldable pub handed_by : Stream → List Turn → List ℕ
handed_by S [] = []
handed_by S (t ∷ ts) = handed S t ++ handed_by (after S t) ts

-- what an input may still have behind the octets that were read: nothing, once a read brought nothing
abbrev pub Behind : Stream → List ℕ → Type 0
Behind S later = S.last ≡ true → later ≡ []

-- where the run is over: at the input's end, or at a frame that is refused
abbrev pub OverAt : Bool → Reading → Type 0
OverAt last end = last ≡ true
OverAt last (refused_frame r) = Unit {0}
OverAt last (taken e size) = ⊥

-- THE CLAIM over any list of turns from a floor, by the limits of a product: however an input is cut into reads, what is handed on is the printed run
-- of the whole input if the run is over, and else a beginning of it. It is over only at the input's end or at a frame refused with 1 to 4; the floor is
-- that of the frames' events
pub record StreamIs (P : Product) (F : Floor) (ts : List Turn) : Type 0 where
  pub whole : (stream_after (begin P F) ts).state ≡ 2 → (later : List ℕ) → Behind (stream_after (begin P F) ts) later → printed_run (limits_of P) (brought_by ts ++ later) ≡ handed_by (begin P F) ts
  pub beginning : (later : List ℕ) → Behind (stream_after (begin P F) ts) later → (rest : List ℕ) × (printed_run (limits_of P) (brought_by ts ++ later) ≡ handed_by (begin P F) ts ++ rest)
  pub over : (stream_after (begin P F) ts).state ≡ 2 → OverAt (stream_after (begin P F) ts).last (frame_of limits (stream_after (begin P F) ts).left)
  pub floor : (later : List ℕ) → Behind (stream_after (begin P F) ts) later
      → (stream_after (begin P F) ts).floor ≡ floor_after (limits_of P) F (events_from (stream_after (begin P F) ts).index (brought_by ts ++ later))
