-- THE STEP OF A SEND, whatever kind of event it came by: what it asks of the stations (S), the messages (M), the lines (W), and the texts (T) or the
-- store (O), and what it leaves and answers.
use Rattle.std.specs.Prelude.{◌≡◌, true, List, ℕ, ◌+◌, ◌*◌, ◌≤◌, ◌<◌, length}
use Rattle.stations.specs.View.{HasStation, head_in, stations_in}
use Rattle.messages.specs.View.{HasRoom}
use Rattle.messages.specs.Texts.{HasText}
use Rattle.lines.specs.Form.{form}
use Rattle.lines.specs.Lines.{used}
use Rattle.lines.specs.Words.{capacity}
use Rattle.products.specs.declared.Bounds.{Bounds}
use Rattle.wired_send.specs.Sent.{CanStore, Announced}
use Rattle.reports.specs.Effects.{putting}
use Rattle.event_send.specs.declared.Posted.{Posted}

-- there is a row for the station, a room for the message and for its text, and room on the lines for a multicast to every station; the table of the
-- stations has so many rows beside the floor's own
abbrev pub CanPost : ℕ → List ℕ → List ℕ → List ℕ → List ℕ → ℕ → ℕ → List ℕ → Type 0
CanPost rows S M W T m s text =
    ((length S ≡ 116 + rows * 116) × (rows ≤ 16) × HasStation S s × HasRoom M m × HasText T m × (length text ≤ 32))
    × (((m < 32) × (s < 16) × ((head_in S).stations ≤ 16) × ((stations_in S).sent s < 4294967296))
    × ((form W ≡ true) × (used W + (head_in S).stations ≤ capacity W)))

-- the same of a long text, for which the store has room; the rows and rooms are the product's
abbrev pub CanPostLong : Bounds → List ℕ → List ℕ → List ℕ → List ℕ → ℕ → ℕ → List ℕ → Type 0
CanPostLong b S M W O m s text =
    ((length S ≡ 116 + b.stations * 116) × (b.stations ≤ 16) × HasStation S s × HasRoom M m × CanStore b.held M O text)
    × (((m < 32) × (s < 16) × ((head_in S).stations ≤ 16) × ((stations_in S).sent s < 4294967296))
    × ((form W ≡ true) × (used W + (head_in S).stations ≤ capacity W)))

-- beside the message and its text: "the message takes the station's number; a multicast goes on the line to every station"
pub record WasPosted (S S' W W' : List ℕ) (m s : ℕ) (r : Posted) : Type 0 where
  pub announced : Announced S S' W W' m s (head_in S).stations ((stations_in S).sent s)
  pub number : r.number.0 ≡ (stations_in S).sent s
  pub counted : r.effect ≡ putting (head_in S).stations
