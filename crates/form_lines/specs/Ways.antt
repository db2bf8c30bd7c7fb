-- WHAT HAS BEEN MET, in words: the numbers of the way, and the masks of the rooms beside it.
use Rattle.std.specs.Prelude.{◌≡◌, Bool, true, false, cond, Option, None, Some, List, ℕ, ◌*◌, ◌<◌, ◌≤◌, length}
use Rattle.protocol.specs.Folds.{every}
use Rattle.lines.specs.Bits.{bit_at}
use Rattle.lines.specs.Form.{count, rows_on_lines, line_ok, form}
use Rattle.form_lines.specs.declared.Way.{Way}
use Rattle.form_lines.specs.Said.{Said, a_multicast, an_ack_list, a_delete, a_deregister, a_register, unknown}
use Rattle.form_lines.specs.Pass.{Noted, noted_so, note, provided}

abbrev pub met_of : Way → List ℕ → Noted
met_of w seen = noted_so w.ok w.next w.gone w.found seen

-- what a record leaves, by its test
abbrev pub outcome : Bool → Noted → Said → Noted
outcome b s r = cond b (note s r) (provided false s)

-- the room, or the cart, of a record is one that a floor may have
abbrev pub Inside : Said → Type 0
Inside (a_multicast m n) = Unit {0}
Inside (an_ack_list m n x) = m < 32
Inside (a_delete m n) = m < 32
Inside (a_deregister c) = c < 64
Inside (a_register c) = c < 64
Inside (unknown x) = Unit {0}

-- the messages' table has whole rows, no more than there are rooms at a station
pub record WholeRooms (M : List ℕ) : Type 0 where
  pub rows : ℕ
  pub few : rows ≤ 32
  pub words : length M ≡ rows * 7

-- THE CHAINS ON THE WAY: the first k lines of the pool are right, and each row is marked in s as often as it stands on them
pub record Whole (l : List ℕ) (k : ℕ) (s : List ℕ) : Type 0 where
  pub right : every k (line_ok l) ≡ true
  pub marks : (x : ℕ) → bit_at s x ≡ count x (rows_on_lines l k)

-- was the walk of a line whole
abbrev pub is_whole : Option Way → Bool
is_whole None = false
is_whole (Some w) = true

-- what was met on it is then what is due
abbrev pub Met : Option Way → List ℕ → Noted → Type 0
Met None masks due = Unit {0}
Met (Some w) masks due = met_of w masks ≡ due

-- a walk up to line k: the lines are whole, and what was met is what it should be; or the pool is not well-formed
abbrev pub Checked : List ℕ → ℕ → List ℕ → Option Way → List ℕ → Noted → Type 0
Checked l k s None masks due = form l ≡ true → ⊥
Checked l k s (Some w) masks due = Whole l k s × (met_of w masks ≡ due)
