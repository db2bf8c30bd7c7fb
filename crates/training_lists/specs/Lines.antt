-- WHAT THE CALLS COME TO: the lists after them, and the lines of their takes.
use Rattle.std.specs.Prelude.{◌≡◌, Result, Ok, Err, List, [], ◌∷◌, ◌++◌, ℕ, suc, ◌+◌, length}
use Rattle.std.proofs.Math.Option.{Option}
use Rattle.protocol.specs.Floor.{Limits, limits}
use Rattle.protocol.specs.PlainLists.{Plain, PlainCall, Exchange, exchanged, fed, head_lines}
use Rattle.protocol.specs.Printed.{decimal, field}
use Rattle.frame_lines.specs.Lines.{written, Wrote, longest_number, longest_pair}
use Rattle.lists.specs.declared.Reply.{Reply}
use Rattle.lists.specs.declared.Reply.TheVariants.{Begun, Sent, Took}
use Rattle.lists.specs.View.{LentLists, lists_in}
use Rattle.lists.specs.Calls.{ListsReady}

-- the lists after calls, one for each frame or none, and the exchanges that they are, from the frame with this index on
unfoldable pub plain_fed : Limits → Plain → List (Option PlainCall) → Plain
plain_fed M P [] = P
plain_fed M P (call ∷ calls) = plain_fed M (fed M P call) calls

unfoldable pub exchanges_of : Limits → Plain → ℕ → List (Option PlainCall) → List Exchange
exchanges_of M P index [] = []
exchanges_of M P index (call ∷ calls) = exchanged M P index call ++ exchanges_of M (fed M P call) (suc index) calls

-- the room that the line of a take is written in: the index, two numbers with a blank before each, and the line end
abbrev pub head_room : ℕ
head_room = longest_number + (longest_pair + 1)

-- the line of a take from a list of station s, by what the lists replied
abbrev pub reply_line : {A : Type 0} → ℕ → ℕ → Result Reply A → List ℕ
reply_line index s (Err refusal) = []
reply_line index s (Ok Begun) = []
reply_line index s (Ok (Sent n)) = []
reply_line index s (Ok (Took n size)) = decimal index ++ field s ++ field n.0 ++ (10 ∷ [])

-- ONE CALL WAS MADE, if there was one, of the frame with this index: the lists were L and are L', and the line was written into out from `at` on
pub record Answered (L L' : LentLists) (call : Option PlainCall) (index : ℕ) (out out' : List ℕ) (at next : ℕ) : Type 0 where
  pub ready : ListsReady L'
  pub lists : lists_in L' ≡ fed limits (lists_in L) call
  pub line : Wrote head_room (head_lines (exchanged limits (lists_in L) index call)) out out' at next

-- ALL OF THEM WERE: the lists were P and are those of L, and all lines stand at the front of the output, which was out₀ before
pub record Fed (P : Plain) (calls : List (Option PlainCall)) (index : ℕ) (L : LentLists) (out₀ out : List ℕ) (at : ℕ) : Type 0 where
  pub ready : ListsReady L
  pub lists : lists_in L ≡ plain_fed limits P calls
  pub size : at ≡ length (head_lines (exchanges_of limits P index calls))
  pub octets : out ≡ written out₀ 0 (head_lines (exchanges_of limits P index calls))
  pub kept : length out ≡ length out₀
