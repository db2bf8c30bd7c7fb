-- THE PIECE OF INPUT, THE FLOOR AND THE LISTS: what a turn of the code is, and the whole run.
use Rattle.std.specs.Prelude.{◌≡◌, List, ◌⊎◌, ℕ, ◌≤◌, length}
use Rattle.protocol.specs.Floor.{Floor, whole_floor}
use Rattle.protocol.specs.PlainLists.{Plain}
use Rattle.frame_run.specs.CanRun.{Unstarted}
use Rattle.frame_stream.specs.declared.Ending.{Ending}
use Rattle.frame_stream.specs.Feed.{state_number}
use Rattle.frame_stream.specs.Stream.{Stream, begin, Turn, after, MayBy, stream_after}
use Rattle.training_stream.specs.Bench.{rows_fill, BenchTurns, lists_behind, lines_of, BenchIs}

-- ONE TURN WAS MADE, from S and lists Q to S' and Q', and these octets were handed on
pub record BenchMade (S S' : Stream) (Q Q' : Plain) (octets : List ℕ) : Type 0 where
  pub turn : Turn
  pub may : MayBy rows_fill S turn
  pub leads : S' ≡ after S turn
  pub lists : Q' ≡ lists_behind S Q turn
  pub hands : octets ≡ lines_of S Q turn

-- THE WHOLE RUN from a floor: the turns that were made, and how it came out, as for `floor`
pub record BenchRan (F : Floor) (r : Ending) : Type 0 where
  pub turns : List Turn
  pub made : BenchTurns (begin whole_floor F) turns
  pub frames : r.frames ≡ (stream_after (begin whole_floor F) turns).index
  pub state : state_number r.state ≡ (stream_after (begin whole_floor F) turns).state
  pub left : r.left ≡ length (stream_after (begin whole_floor F) turns).left
  pub stopped : (2 ≤ state_number r.state) ⊎ ((9223372036854775808 ≤ r.frames) ⊎ (length turns ≡ 18446744073709551615))

-- and what it hands on is `plain_run` of its input
pub record Benched (r : Ending) : Type 0 where
  pub floor : Floor
  pub fresh : Unstarted floor
  pub ran : BenchRan floor r
  pub is : BenchIs floor ran.turns
