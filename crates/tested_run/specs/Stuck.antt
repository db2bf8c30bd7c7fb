-- THE RUN OVER ANY LENT FLOOR: "the form test once for each call; a floor that breaks the rule answers 5 to every event".
use Rattle.std.specs.Prelude.{◌≡◌, Bool, true, false, cond, List, ℕ}
use Rattle.protocol.specs.Floor.{limits_of}
use Rattle.protocol.specs.Form.{passes_form}
use Rattle.stations.specs.View.{head_in}
use Rattle.view.specs.View.{Lent, lengths_in, floor_in}
use Rattle.event_answers.specs.Met.{Ready}
use Rattle.frames.specs.declared.Event.{Event}
use Rattle.frames.specs.declared.Event.TheVariants.{Start, Enter, Send, Wire, Radio, Move, Flag, Group, SendGroup, SendLong, Retire}
use Rattle.frame_run.specs.declared.Progress.{Progress}
use Rattle.frame_run.specs.Went.{WentOn}

-- A FLOOR THAT NO EVENT CAN GO ON WITH: a lent part has the wrong length, or the floor is started and breaks the form rule
pub record Stuck (lengths : Bool) (L : Lent) : Type 0 where
  pub lengths_are : lengths ≡ lengths_in L
  pub begun : lengths ≡ true → (head_in L.stations).mark ≡ 1
  pub breaks : false ≡ passes_form (limits_of L.product) (floor_in L)

-- every lent floor is one of these or one that events can go on with; the test says which
abbrev pub ByTest : Bool → Bool → Lent → Type 0
ByTest stuck lengths L = (stuck ≡ true → Stuck lengths L) × (stuck ≡ false → Ready L)

-- what an event is refused with there: 5; a start where all parts have their lengths with 6, for the floor is started
abbrev pub stuck_number : Bool → Event → ℕ
stuck_number lengths (Start n k) = cond lengths 6 5
stuck_number lengths (Enter t c) = 5
stuck_number lengths (Send s set n) = 5
stuck_number lengths (Wire i j) = 5
stuck_number lengths (Radio t c) = 5
stuck_number lengths (Move c to) = 5
stuck_number lengths (Flag c b) = 5
stuck_number lengths (Group g set) = 5
stuck_number lengths (SendGroup s g n) = 5
stuck_number lengths (SendLong s set n) = 5
stuck_number lengths (Retire c) = 5

-- whatever floor it is
abbrev pub AnyLent : Lent → Type 0
AnyLent L = Unit {0}

-- THE PIECE WAS RUN, over any lent floor, as `WentOn` says; and one that no event can go on with is left as it is, word for word
pub record RanAny (input : List ℕ) (index : ℕ) (last : Bool) (L L' : Lent) (out out' : List ℕ) (p : Progress) : Type 0 where
  pub went : WentOn AnyLent input index last L L' out out' p
  pub untouched : (Ready L → ⊥) → L' ≡ L
