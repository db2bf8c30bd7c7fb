-- THE STREAM OF THE TRAINING BENCH: an input comes in reads, its frames are run over the floor as they become whole, the calls that they make are made to the
-- lists, and the lines of the takes are handed on. Reads, turns and the floor's side are those of the stream of `floor`.
use Rattle.std.specs.Prelude.{◌≡◌, List, [], ◌∷◌, ◌++◌, ℕ}
use Rattle.protocol.specs.Floor.{Floor, whole_floor, limits}
use Rattle.protocol.specs.PlainLists.{Plain, plain_unstarted, exchanges_from, head_lines, plain_run}
use Rattle.frame_stream.specs.Stream.{Stream, begin, Turn, brought, failed, ran, after, TurnsBy, stream_after, brought_by, Behind}
use Rattle.training_calls.specs.Calls.{calls_from}
use Rattle.training_lists.specs.Lines.{plain_fed}

-- the table of calls has a row for each of 1,024 frames
abbrev pub rows_fill : Stream → ℕ → Type 0
rows_fill S n = n ≡ 1024

-- any list of turns, each from what the last one left
abbrev pub BenchTurns : Stream → List Turn → Type 0
BenchTurns = TurnsBy rows_fill

-- the lists after a turn: they are fed what the frames of a run made
unfoldable pub lists_behind : Stream → Plain → Turn → Plain
lists_behind S Q (brought l) = Q
lists_behind S Q failed = Q
lists_behind S Q (ran n why accepted) = plain_fed limits Q (calls_from whole_floor n S.floor S.left)

-- the octets that a turn hands on to be written: the lines of the exchanges of its frames
unfoldable pub lines_of : Stream → Plain → Turn → List ℕ
lines_of S Q (brought l) = []
lines_of S Q failed = []
lines_of S Q (ran n why accepted) = head_lines (exchanges_from limits n S.floor Q S.index S.left)

-- after all turns
unfoldable pub lists_by : Stream → Plain → List Turn → Plain
lists_by S Q [] = Q
lists_by S Q (t ∷ ts) = lists_by (after S t) (lists_behind S Q t) ts

-- all that they handed on, one after the other
unfoldable pub lines_by : Stream → Plain → List Turn → List ℕ
lines_by S Q [] = []
lines_by S Q (t ∷ ts) = lines_of S Q t ++ lines_by (after S t) (lists_behind S Q t) ts

-- THE CLAIM over any list of turns from a floor and unstarted lists: however an input is cut into reads, what is handed on is `plain_run` of the whole input if
-- the run is over, and else a beginning of it
pub record BenchIs (F : Floor) (ts : List Turn) : Type 0 where
  pub whole : (stream_after (begin whole_floor F) ts).state ≡ 2 → (later : List ℕ) → Behind (stream_after (begin whole_floor F) ts) later
      → plain_run limits (brought_by ts ++ later) ≡ lines_by (begin whole_floor F) plain_unstarted ts
  pub beginning : (later : List ℕ) → Behind (stream_after (begin whole_floor F) ts) later
      → (rest : List ℕ) × (plain_run limits (brought_by ts ++ later) ≡ lines_by (begin whole_floor F) plain_unstarted ts ++ rest)
