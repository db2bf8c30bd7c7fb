-- WHAT THE FUNCTIONS OF THE STORE ASK AND PROMISE.
use Rattle.std.specs.Prelude.{◌≡◌, Bool, Option, None, Some, cond, ◌&&◌, List, ℕ, ◌+◌, ◌*◌, ◌≤◌, ◌<◌, ltb, leb, length, drop}
use Rattle.protocol.specs.Folds.{first, every, by_option}
use Rattle.protocol.specs.Claims.{True}
use Rattle.messages.specs.View.{Rooms, width, rooms_in}
use Rattle.store.specs.declared.Filling.{Filling}
use Rattle.store.specs.Texts.{is_stored, text_of}
use Rattle.store.specs.Layout.{size, layout_rule, used_in, end_in, together, place_for}

-- the messages' table has rows for h rooms, and their long texts lie right
pub record Laid (h : ℕ) (messages : List ℕ) : Type 0 where
  pub rows : length messages ≡ h * width
  pub right : True (layout_rule h (rooms_in messages))

-- what they take
pub record Filled (h : ℕ) (R : Rooms) (f : Filling) : Type 0 where
  pub octets_are : f.octets ≡ used_in h R
  pub end_is : f.end ≡ end_in h R
  pub few_octets : f.octets ≤ size
  pub end_within : f.end ≤ size

-- where the text of room m begins, if it lies in the store at or behind `from`; else the end of the store
abbrev pub begin_from : Rooms → ℕ → ℕ → ℕ
begin_from R from m = cond (is_stored R m && leb from (R.offset m)) (R.offset m) size

-- that is in the store, and none begins before
abbrev pub is_lowest : ℕ → Rooms → ℕ → ℕ → Bool
is_lowest h R from m = ltb (begin_from R from m) size && every h (λ k. leb (begin_from R from m) (begin_from R from k))

-- the room of the first text at or behind `from`, if there is one
abbrev pub lowest_from : ℕ → Rooms → ℕ → Option ℕ
lowest_from h R from = by_option (first h (is_lowest h R from)) None (λ m. Some m)

-- the texts of h rooms are moved together: messages and store were M and S, and are M' and S'. That says every octet of S': the texts lie in it one behind
-- the other, and behind them it is S
pub record Moved (h : ℕ) (M S M' S' : List ℕ) : Type 0 where
  pub rooms : rooms_in M' ≡ together h (rooms_in M)
  -- moving changes no text, whatever is in the parts of the short ones
  pub texts : (texts : List ℕ) → text_of texts S' (rooms_in M') ≡ text_of texts S (rooms_in M)
  -- nor an octet behind those that the texts take
  pub rest : drop (used_in h (rooms_in M)) S' ≡ drop (used_in h (rooms_in M)) S
  pub rows : length M' ≡ length M
  pub octets : length S' ≡ length S

-- there is room for n octets from `place` on. "texts are moved together when the free octets suffice but lie apart", and only then
pub record Made (h n : ℕ) (M S M' S' : List ℕ) (place : ℕ) : Type 0 where
  pub place_is : place ≡ place_for h (rooms_in M) n
  pub stays : end_in h (rooms_in M) + n ≤ size → (M' ≡ M) × (S' ≡ S)
  pub moves : size < end_in h (rooms_in M) + n → Moved h M S M' S'
