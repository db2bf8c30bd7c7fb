-- A SEND OF EITHER KIND PLACES ITS TEXT: of the texts of all rooms that of the new message alone is another, and those of the store lie right.
use mathlib.Core.Path.{◌≡◌, refl, sym, ap, subst, ◌∙◌}
use mathlib.Core.Bool.{true, false}
use mathlib.Core.List.{List}
use Prim.Native.Nat.{ℕ, ◌≤◌, ◌<◌}
use lib.Dec.{eqb}
use lib.ListN.{length}
use borrow.Author.Tests.{eqb-true, eqb-false}
use Rattle.protocol.specs.Folds.{update}
use Rattle.protocol.specs.CartSets.{has, set_of}
use Rattle.protocol.specs.Claims.{True}
use Rattle.protocol.proofs.Tests.{by_test, clash}
use Rattle.protocol.proofs.SetLaws.{has_set_of, has_zero}
use Rattle.messages.specs.View.{Rooms, rooms_in, with_offsets, with_message}
use Rattle.store.specs.Texts.{text_of}
use Rattle.store.specs.Layout.{layout_rule}
use Rattle.store.proofs.Changes.{texts_short, right_short}
use Rattle.store.proofs.Sent.{SentLong, long_sent}
use Rattle.wired_send.specs.Sent.{CanStore, Kept, KeptLong}

-- messages, texts and store were M, T and O, and are M', T' and O', with a new message in room m; h rooms are looked at
pub record Placed (h : ℕ) (M M' T T' O O' : List ℕ) (m s n number set : ℕ) (text : List ℕ) : Type 0 where
  -- where the texts lie in the store, and the new one
  pub offset : ℕ → ℕ
  pub place : ℕ
  pub rooms : rooms_in M' ≡ with_message (with_offsets (rooms_in M) offset) m s number set (set_of n (λ t. true)) (length text) place
  pub texts : text_of T' O' (rooms_in M') ≡ update (text_of T O (rooms_in M)) m text
  pub right : True (layout_rule h (rooms_in M'))
  pub words : length M' ≡ length M
  pub octets : length T' ≡ length T
  pub whole : length O' ≡ length O

-- a floor with a station waits for all its stations
pub waits_for_all : (n s : ℕ) → s < n → eqb (set_of n (λ t. true)) 0 ≡ false
waits_for_all n s l =
    by_test (eqb (set_of n (λ t. true)) 0)
    (λ e. let z = has_set_of n (λ t. true) s l in let y = eqb-true (set_of n (λ t. true)) 0 e in clash (has 0 s) (rw y at z) (has_zero s))
    (λ e. e)

module _ (h : ℕ) (M M' : List ℕ) (m s n number set : ℕ) (text : List ℕ) (on_floor : s < n) where
  waited : set_of n (λ t. true) ≡ 0 → ⊥
  waited = eqb-false (set_of n (λ t. true)) 0 (waits_for_all n s on_floor)

  -- a short text, in its room's part
  pub short_placed : (T T' O : List ℕ) → True (layout_rule h (rooms_in M)) → length text ≤ 32 → Kept M M' T T' m s n number set text
      → Placed h M M' T T' O O m s n number set text
  short_placed T T' O right short kept =
      record {
        offset = (rooms_in M).offset;
        place = 0;
        rooms = kept.rooms;
        texts = ap (text_of T' O) kept.rooms
            ∙ texts_short (rooms_in M) m s number set (set_of n (λ t. true)) 0 text waited T T' O short kept.here kept.others;
        right = subst (λ (R : Rooms). True (layout_rule h R)) (sym kept.rooms)
            (right_short h (rooms_in M) m s number set (set_of n (λ t. true)) (length text) 0 right short);
        words = kept.words;
        octets = kept.octets;
        whole = refl;
      }

  -- a long text, in the store
  pub long_placed : (T O O' : List ℕ) → CanStore h M O text → KeptLong h M M' O O' m s n number set text
      → Placed h M M' T T O O' m s n number set text
  long_placed T O O' can kept =
      record {
        offset = sent.rooms.0;
        place = kept.place;
        rooms = sent.rooms.1;
        texts = sent.texts T;
        right = sent.laid.right;
        words = sent.laid.rows ∙ sym can.laid.rows;
        octets = refl;
        whole = sent.full ∙ sym can.whole;
      }
    where
      sent : SentLong h M O M' O' m s number set (set_of n (λ t. true)) kept.place text
      sent =
          long_sent h M O kept.messages kept.store M' O' m s number set (set_of n (λ t. true)) kept.place text
          can.laid can.whole can.above can.below waited can.free kept.made kept.put kept.rooms kept.words
