-- THE CLOSING OF A RUN: the line behind the lines of its frames, and what all of them are together.
use Rattle.std.specs.Prelude.{◌≡◌, Bool, cond, not, ◌&&◌, List, [], ◌∷◌, ◌++◌, ℕ, ◌+◌, eqb, length}
use Rattle.protocol.specs.Floor.{Floor, whole_floor, limits}
use Rattle.protocol.specs.Quiet.{QuietAnswer}
use Rattle.protocol.specs.Closing.{quiet_word, closing_fields, closing_line, printed_closing}
use Rattle.messages.specs.View.{rooms_in}
use Rattle.frame_lines.specs.Lines.{longest_pair}
use Rattle.frame_stream.specs.declared.Ending.{Ending}
use Rattle.frame_stream.specs.declared.Handed.{Handed}
use Rattle.frame_stream.specs.Stream.{Turn, begin, stream_after, brought_by, handed_by, Behind}
use Rattle.frame_stream.specs.declared.State.TheVariants.{Failed}
use Rattle.frame_stream.specs.Feed.{state_number, Streamed}

-- how many octets the line has at most: the word, two numbers, each with a blank before it, and the line end
abbrev pub longest_closing : ℕ
longest_closing = 5 + longest_pair + 1

-- the line of an answer
abbrev pub answer_line : QuietAnswer → ℕ → List ℕ
answer_line answer held = quiet_word ++ (closing_fields answer held ++ (10 ∷ []))

-- is a room taken, by the words of the messages
abbrev pub is_taken : List ℕ → ℕ → Bool
is_taken messages m = not (eqb ((rooms_in messages).waiting m) 0)

-- "at the end of the input": the run is over, and every octet was run. Where a frame was refused its octets are left
abbrev pub at_end : Ending → Bool
at_end e = eqb (state_number e.state) 2 && eqb e.left 0

-- the line behind those of the frames, of the floor that the run left; none where it did not come to the end of the input
abbrev pub last_line : Ending → Floor → List ℕ
last_line e F = cond (at_end e) (closing_line limits F) []

-- how the run and the line behind it came out: it failed where the line could not be written
abbrev pub after_line : Ending → Handed → Ending
after_line e h = record { frames = e.frames; state = cond h.accepted e.state Failed; left = e.left }

-- WHAT IS HANDED ON TOGETHER, over any list of turns from a floor: however an input is cut into reads, the lines of its frames and the line behind them
-- are the printed closing of the whole input, if the run is over
abbrev pub ClosingIs : Floor → List Turn → List ℕ → Type 0
ClosingIs F ts line =
    (stream_after (begin whole_floor F) ts).state ≡ 2 → (later : List ℕ) → Behind (stream_after (begin whole_floor F) ts) later
    → printed_closing limits (brought_by ts ++ later) ≡ handed_by (begin whole_floor F) ts ++ line

-- THE CLOSING WAS MADE: a run, and a line behind it that was handed on
pub record Closed (r : Ending) : Type 0 where
  pub run : Ending
  pub streamed : Streamed whole_floor run
  pub line : List ℕ
  pub last : line ≡ last_line run (stream_after (begin whole_floor streamed.floor) streamed.finished.turns).floor
  pub handed : Handed
  pub size : handed.size ≡ length line
  pub ending : r ≡ after_line run handed
  pub is : ClosingIs streamed.floor streamed.finished.turns line
