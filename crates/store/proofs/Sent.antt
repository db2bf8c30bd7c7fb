-- A LONG TEXT IS SENT: room is made in the store, the text is put there, and the message into its room. Of the texts of all rooms that of the new message
-- alone is another, and they lie right.
use mathlib.Core.Path.{◌≡◌, refl, sym, ap, subst, ◌∙◌}
use mathlib.Core.Bool.{false}
use mathlib.Core.List.{List}
use Prim.Native.Nat.{ℕ, ◌+◌, ◌*◌, ◌≤◌, ◌<◌}
use native.Mathlib.Omega.{arith}
use lib.ListN.{length}
use lib.Seq.{paste, length-paste}
use Rattle.protocol.specs.Folds.{update}
use Rattle.protocol.specs.Claims.{True}
use Rattle.protocol.proofs.Tests.{clash}
use Rattle.messages.specs.View.{Rooms, width, rooms_in, no_rooms, with_offsets, with_message}
use Rattle.store.specs.Texts.{text_of}
use Rattle.store.specs.Layout.{layout_rule, used_in}
use Rattle.store.specs.Moved.{Laid, Made}
use Rattle.store.proofs.Room.{RoomFor, room_made}
use Rattle.store.proofs.Changes.{texts_long, right_long}

-- messages and store were M and S, and are M'' and S''
pub record SentLong (h : ℕ) (M S M'' S'' : List ℕ) (m s n named w place : ℕ) (text : List ℕ) : Type 0 where
  pub rooms : (offset : ℕ → ℕ) × (rooms_in M'' ≡ with_message (with_offsets (rooms_in M) offset) m s n named w (length text) place)
  pub texts : (texts : List ℕ) → text_of texts S'' (rooms_in M'') ≡ update (text_of texts S (rooms_in M)) m text
  pub laid : Laid h M''
  pub full : length S'' ≡ 4096

pub long_sent : (h : ℕ) (M S M' S' M'' S'' : List ℕ) (m s n named w place : ℕ) (text : List ℕ)
    → Laid h M → length S ≡ 4096 → 32 < length text → length text ≤ 512 → (w ≡ 0 → ⊥) → used_in h (rooms_in M) + length text ≤ 4096
    → Made h (length text) M S M' S' place
    → S'' ≡ paste S' place text (length text)
    → rooms_in M'' ≡ with_message (rooms_in M') m s n named w (length text) place
    → length M'' ≡ length M'
    → SentLong h M S M'' S'' m s n named w place text
long_sent h M S M' S' M'' S'' m s n named w place text L full long most held enough made put message rows =
    record {
      rooms = ((rooms_in M').offset, message ∙ ap (λ (X : Rooms). with_message X m s n named w (length text) place) room.rooms);
      texts = λ texts. ap (text_of texts S'') message
          ∙ texts_long (rooms_in M') m s n named w place text held S' there room.free texts S'' long put
          ∙ ap (λ (f : ℕ → List ℕ). update f m text) (room.texts texts);
      laid = record {
        rows = rows ∙ room.laid.rows;
        right = subst (λ (X : Rooms). True (layout_rule h X)) (sym message) (right_long h (rooms_in M') m s n named w (length text) place room.laid.right most room.inside room.free);
      };
      full = ap length put ∙ length-paste S' place text (length text) there (omega arith) ∙ room.full;
    }
  where
    room : RoomFor h (length text) M S M' S' place
    room = room_made h (length text) M S M' S' place L full enough made

    there : place + length text ≤ length S'
    there = omega (arith, room.inside, room.full)

-- nothing is in any room
pub none_laid : (h : ℕ) (M : List ℕ) → length M ≡ h * width → rooms_in M ≡ no_rooms → Laid h M
none_laid h M rows none = record { rows = rows; right = subst (λ (X : Rooms). True (layout_rule h X)) (sym none) (λ m l s. clash false s refl) }
