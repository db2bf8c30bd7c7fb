-- THE TEXTS OF ALL HELD MESSAGES: "Long texts lie in one store of 4,096 octets", the others in the parts of their rooms.
use Rattle.std.specs.Prelude.{◌≡◌, Bool, true, cond, not, ◌&&◌, List, [], ℕ, ◌+◌, ◌≤◌, eqb, ltb, leb, length, take, drop}
use Rattle.messages.specs.View.{HasRoom, Rooms, rooms_in}
use Rattle.messages.specs.Texts.{longest, HasText, text_in}

-- the text of room m lies in the store: its message is held, and the text is longer than a room's part
abbrev pub is_stored : Rooms → ℕ → Bool
is_stored R m = not (eqb (R.waiting m) 0) && ltb longest (R.length m)

-- THE TEXT OF ROOM m, "that text's own part of the short table or of the long store"; of a free room, none: its octets may be another's by now
unfoldable pub text_of : (texts store : List ℕ) → Rooms → ℕ → List ℕ
text_of texts store R m =
    cond (eqb (R.waiting m) 0) []
    (cond (leb (R.length m) longest) (text_in texts (R.length m) m) (take (R.length m) (drop (R.offset m) store)))

-- there is a row for room m, and a part for its text, wherever that lies
pub record HasParts (messages texts store : List ℕ) (m : ℕ) : Type 0 where
  pub row : HasRoom messages m
  pub short : HasText texts m
  pub long : is_stored (rooms_in messages) m ≡ true → (rooms_in messages).offset m + (rooms_in messages).length m ≤ length store
