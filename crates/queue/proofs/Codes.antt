-- A room, or none: as the code has it, and in a word.
use mathlib.Core.Path.{◌≡◌, refl, ap, ◌∙◌}
use mathlib.Core.Option.{Option, none, some}
use Prim.Native.Nat.{ℕ, ◌<◌, ◌≤◌}
use native.Mathlib.Omega.{arith}
use borrow.Author.Tests.{lt-ltb, le-ltb}
use Rattle.std.specs.Prelude as code
use Rattle.std.specs.Prelude.{Some, None}
use Rattle.queue.specs.Rooms.{room_code, room_in, room_word, room_at}

-- the room, if any, is one of the first n
abbrev pub Below : ℕ → Option ℕ → Type 0
Below n none = 0 ≤ n
Below n (some m) = m < n

-- what the code has says the room, or none
pub decoded : (o : Option ℕ) → room_in (room_code o) ≡ o
decoded none = refl
decoded (some m) = refl

pub encoded : (h : code.Option ℕ) → h ≡ room_code (room_in h)
encoded None = refl
encoded (Some m) = refl

pub code_says : (o : Option ℕ) {h : code.Option ℕ} → h ≡ room_code o → o ≡ room_in h
code_says none e = rw e refl
code_says (some m) e = rw e refl

pub is_room : (o : Option ℕ) {h : code.Option ℕ} (m : ℕ) → h ≡ Some m → h ≡ room_code o → o ≡ some m
is_room o m found e = code_says o e ∙ ap room_in found

pub is_none : (o : Option ℕ) {h : code.Option ℕ} → h ≡ None → h ≡ room_code o → o ≡ none
is_none o found e = code_says o e ∙ ap room_in found

-- in a word
pub room_at_lem : (k : ℕ) → k < 32 → room_at k ≡ some k
room_at_lem k h = rw (lt-ltb k 32 h)

pub no_room_at : (k : ℕ) → 32 ≤ k → room_at k ≡ none
no_room_at k h = rw (le-ltb k 32 h)

pub word_says : (o : Option ℕ) (n : ℕ) → n ≤ 32 → Below n o → room_at (room_word o) ≡ o
word_says none n l h = refl
word_says (some m) n l h = room_at_lem m (omega arith)
