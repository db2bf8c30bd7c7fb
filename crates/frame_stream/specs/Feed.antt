-- THE PIECE OF INPUT AND THE STREAM: what the code's numbers say of it.
use Rattle.std.specs.Prelude.{◌≡◌, Bool, cond, List, ◌⊎◌, ℕ, ◌+◌, ◌-◌, ◌<◌, ◌≤◌, eqb, Option, None, Some, length, take, drop}
use Rattle.protocol.specs.Floor.{Product, Floor}
use Rattle.frames.specs.Decoded.{longest_frame}
use Rattle.view.specs.View.{Lent, floor_in}
use Rattle.frame_run.specs.declared.Progress.{Progress}
use Rattle.frame_run.specs.declared.Stop.{Stop}
use Rattle.frame_run.specs.declared.Stop.TheVariants.{Full, Waits, Ended}
use Rattle.event_answers.specs.Met.{Ready}
use Rattle.frame_run.specs.CanRun.{Unstarted}
use Rattle.frame_stream.specs.declared.Feed.{Feed}
use Rattle.frame_stream.specs.declared.State.{State}
use Rattle.frame_stream.specs.declared.State.TheVariants.{Runs, Wants, Over, Failed}
use Rattle.frame_stream.specs.declared.Handed.{Handed}
use Rattle.frame_stream.specs.declared.Ending.{Ending}
use Rattle.frame_stream.specs.Stream.{Stream, begin, Turn, after, handed, May, Turns, stream_after, StreamIs}

-- WHAT IS TO BE DONE, by the number that the stream knows it by
abbrev pub state_number : State → ℕ
state_number Runs = 0
state_number Wants = 1
state_number Over = 2
state_number Failed = 3

-- the feed stands in a piece of n octets; where a read is wanted, what is left is less than a whole frame, so the read has room
pub record Inside (n : ℕ) (f : Feed) : Type 0 where
  pub run : f.at ≤ f.have
  pub read : f.have ≤ n
  pub few : state_number f.state ≡ 1 → f.have - f.at < longest_frame

-- THE STREAM that a piece of input, the lent floor and the feed say: what is left are the octets from `at` up to `have`
abbrev pub stream_of : List ℕ → Lent → Feed → Stream
stream_of input L f = record { product = L.product; left = take (f.have - f.at) (drop f.at input); floor = floor_in L; index = f.index; state = state_number f.state; last = f.last }

-- ONE TURN WAS MADE, from S to S', and these octets were handed on
pub record Made (S S' : Stream) (octets : List ℕ) : Type 0 where
  pub turn : Turn
  pub may : May S turn
  pub leads : S' ≡ after S turn
  pub hands : octets ≡ handed S turn

-- the feed after a read, this many octets having been kept at the front: what it brought stands behind them, and if that is nothing the input has ended
abbrev pub after_read : ℕ → Option ℕ → Feed → Feed
after_read kept None f = record { at = 0; have = kept; index = f.index; state = Failed; last = f.last; handed = 0 }
after_read kept (Some n) f = record { at = 0; have = kept + n; index = f.index; state = Runs; last = eqb n 0; handed = 0 }

-- what is to be done after a run, as `state_after` says by numbers
abbrev pub stopped_state : Stop → Bool → State
stopped_state Full last = Runs
stopped_state Waits last = cond last Over Wants
stopped_state Ended last = Over

abbrev pub next_state : Stop → Bool → Bool → State
next_state why last accepted = cond accepted (stopped_state why last) Failed

-- the feed after a run: behind the octets and frames that were run
abbrev pub after_run : Feed → Progress → Handed → Feed
after_run f p h =
    record { at = f.at + p.read; have = f.have; index = f.index + p.frames; state = next_state p.state f.last h.accepted; last = f.last; handed = h.size }

-- THE WHOLE RUN from a floor, by the limits of a product: the turns that were made, and how it came out. It stopped since nothing was to be done, or
-- since 2^63 frames were run or 2^64 − 1 turns made, which no input uses up
pub record Finished (P : Product) (F : Floor) (r : Ending) : Type 0 where
  pub turns : List Turn
  pub made : Turns (begin P F) turns
  pub frames : r.frames ≡ (stream_after (begin P F) turns).index
  pub state : state_number r.state ≡ (stream_after (begin P F) turns).state
  pub left : r.left ≡ length (stream_after (begin P F) turns).left
  pub stopped : (2 ≤ state_number r.state) ⊎ ((9223372036854775808 ≤ r.frames) ⊎ (length turns ≡ 18446744073709551615))

-- the same over lent parts: they were L, and L' says the floor after the last turn, with which a run could go on
pub record RanAll (L L' : Lent) (r : Ending) : Type 0 where
  pub finished : Finished L.product (floor_in L) r
  pub ready : Ready L'
  pub floor : floor_in L' ≡ (stream_after (begin L.product (floor_in L)) finished.turns).floor

-- and it prints the printed run of that product
pub record Streamed (P : Product) (r : Ending) : Type 0 where
  pub floor : Floor
  pub fresh : Unstarted floor
  pub finished : Finished P floor r
  pub is : StreamIs P floor finished.turns
