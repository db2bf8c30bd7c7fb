-- ROOM FOR A NEW TEXT: that it is made, and what a caller has then.
use mathlib.Core.Path.{◌≡◌, refl, sym, ap, subst, ◌∙◌}
use mathlib.Core.Bool.{true, ◌||◌}
use mathlib.Core.List.{List}
use Prim.Native.Nat.{ℕ, zero, suc, ◌+◌, ◌*◌, ◌≤◌, ◌<◌}
use native.Mathlib.Omega.{arith}
use lib.Dec.{leb}
use lib.ListN.{length}
use borrow.Author.Tests.{le-leb, lt-leb}
use Rattle.protocol.specs.Claims.{True}
use Rattle.protocol.proofs.Tests.{by_lt, by_eq, clash, on_cond, or_left, or_right}
use Rattle.messages.specs.View.{Rooms, rooms_in, with_offsets}
use Rattle.store.specs.Texts.{is_stored, HasParts, text_of}
use Rattle.store.specs.Layout.{layout_rule, used_in, used_before, end_of, end_in, together}
use Rattle.store.specs.Moved.{Laid, Moved, Made}
use Rattle.store.proofs.Looks.{stored_is_long}
use Rattle.store.proofs.Taken.{used_next, used_all}
use Rattle.store.proofs.Apart.{by_apart, none_beyond}
use Rattle.store.proofs.Fits.{texts_fit}

-- THE END

module _ (h : ℕ) (R : Rooms) (right : True (layout_rule h R)) where
  pub end_within : (m : ℕ) → m ≤ h → end_in m R ≤ 4096
  unfolding end_in
  end_within zero l = omega arith
  end_within (suc m) l =
      let e = end_within m (omega arith) in
      let its : end_of R m ≤ 4096 = on_cond (λ x. x ≤ 4096) (is_stored R m) (λ s. (right m (omega arith) s).0.1) (λ s. omega arith) in omega arith

-- no text ends behind it
ends_before : (m : ℕ) (R : Rooms) (k : ℕ) → k < m → is_stored R k ≡ true → R.offset k + R.length k ≤ end_in m R
unfolding end_in
ends_before zero R k l s = absurd (omega arith)
ends_before (suc m) R k l s =
    by_eq k m
    (λ e. let z : end_of R m ≡ R.offset k + R.length k = rw (← e, s) in omega arith)
    (λ e. let z = ends_before m R k (omega arith) s in omega arith)

-- MADE

pub made_still : (h n : ℕ) (M S : List ℕ) (last : ℕ) → last ≡ end_in h (rooms_in M) → last + n ≤ 4096 → Made h n M S M S last
made_still h n M S last e l =
    record {
      place_is = rw (le-leb (end_in h (rooms_in M) + n) 4096 (omega arith)) e;
      stays = λ z. (refl, refl);
      moves = λ z. absurd (omega arith);
    }

pub made_moved : (h n : ℕ) (M S M' S' : List ℕ) (last to : ℕ) → last ≡ end_in h (rooms_in M) → 4096 < last + n → to ≡ used_in h (rooms_in M) → Moved h M S M' S' → Made h n M S M' S' to
made_moved h n M S M' S' last to e l d moved =
    record {
      place_is = rw (lt-leb (end_in h (rooms_in M) + n) 4096 (omega arith)) d;
      stays = λ z. absurd (omega arith);
      moves = λ z. moved;
    }

-- MOVED TOGETHER, the texts lie right, and all before the octets that they take

module _ (h : ℕ) (R : Rooms) (right : True (layout_rule h R)) where
  in_store : (k : ℕ) → k < h → is_stored R k ≡ true → R.offset k < 4096
  in_store k l s = omega (arith, (right k l s).0.1, stored_is_long R k s)

  together_before : (k : ℕ) → k < h → is_stored R k ≡ true → used_before h R (R.offset k) + R.length k ≤ used_in h R
  together_before k l s = omega (arith, used_next h R k 4096 l s (in_store k l s), used_all h R 4096 in_store)

  together_right : True (layout_rule h (together h R))
  together_right m l s = (((right m l s).0.0, rw s (omega (arith, together_before m l s, texts_fit h R right))), (λ k lk t. rw (s, t) (order k lk t)))
    where
      at : ℕ → ℕ
      at k = used_before h R (R.offset k)

      order : (k : ℕ) → k < m → is_stored R k ≡ true → (leb (at k + R.length k) (at m) || leb (at m + R.length m) (at k)) ≡ true
      order k lk t =
          by_apart h R right k m (omega arith) l t s (λ e. absurd (omega arith))
          (λ z. or_left (leb (at k + R.length k) (at m)) (leb (at m + R.length m) (at k))
          (le-leb (at k + R.length k) (at m) (used_next h R k (R.offset m) (omega arith) t (omega (arith, stored_is_long R k t)))))
          (λ z. or_right (leb (at k + R.length k) (at m)) (leb (at m + R.length m) (at k))
          (le-leb (at m + R.length m) (at k) (used_next h R m (R.offset k) l s (omega (arith, stored_is_long R m s)))))

-- WHAT A CALLER HAS: the n octets from `place` on are in the store, and every text of the store ends before them; no text has changed, and of the rooms
-- nothing but where their texts lie
pub record RoomFor (h n : ℕ) (M S M' S' : List ℕ) (place : ℕ) : Type 0 where
  pub inside : place + n ≤ 4096
  pub free : (k : ℕ) → is_stored (rooms_in M') k ≡ true → (rooms_in M').offset k + (rooms_in M').length k ≤ place
  pub texts : (texts : List ℕ) → text_of texts S' (rooms_in M') ≡ text_of texts S (rooms_in M)
  pub rooms : rooms_in M' ≡ with_offsets (rooms_in M) (rooms_in M').offset
  pub laid : Laid h M'
  pub full : length S' ≡ 4096

module _ (h n : ℕ) (M S M' S' : List ℕ) (place : ℕ) (L : Laid h M) (full : length S ≡ 4096) (enough : used_in h (rooms_in M) + n ≤ 4096) where
  beyond : {P : Type 0} (k : ℕ) → h ≤ k → is_stored (rooms_in M) k ≡ true → P
  beyond k l s = clash (is_stored (rooms_in M) k) s (none_beyond h M L.rows k l)

  -- where nothing was moved
  room_behind : place ≡ end_in h (rooms_in M) → end_in h (rooms_in M) + n ≤ 4096 → M' ≡ M → S' ≡ S → RoomFor h n M S M' S' place
  room_behind e l same_words same_octets =
      rw (same_words, same_octets)
      record {
        inside = omega arith;
        free = λ k s. by_lt k h (λ z. omega (arith, ends_before h (rooms_in M) k z s)) (λ z. beyond k z s);
        texts = λ texts. refl;
        rooms = refl;
        laid = L;
        full = full;
      }

  -- where the texts were moved together
  room_after : place ≡ used_in h (rooms_in M) → Moved h M S M' S' → RoomFor h n M S M' S' place
  room_after e moved =
      record {
        inside = omega arith;
        free = subst (λ (X : Rooms). (k : ℕ) → is_stored X k ≡ true → X.offset k + X.length k ≤ place) (sym moved.rooms)
            (λ k s. rw s (by_lt k h (λ z. omega (arith, together_before h (rooms_in M) L.right k z s)) (λ z. beyond k z s)));
        texts = moved.texts;
        rooms = moved.rooms ∙ ap (with_offsets (rooms_in M)) (sym (ap (λ (X : Rooms). X.offset) moved.rooms));
        laid = record {
          rows = moved.rows ∙ L.rows;
          right = subst (λ (X : Rooms). True (layout_rule h X)) (sym moved.rooms) (together_right h (rooms_in M) L.right);
        };
        full = moved.octets ∙ full;
      }

  pub room_made : Made h n M S M' S' place → RoomFor h n M S M' S' place
  room_made made =
      by_lt 4096 (end_in h (rooms_in M) + n)
      (λ l. room_after (made.place_is ∙ rw (lt-leb (end_in h (rooms_in M) + n) 4096 l)) (made.moves l))
      (λ l. let z = made.stays l in room_behind (made.place_is ∙ rw (le-leb (end_in h (rooms_in M) + n) 4096 l)) l z.0 z.1)

-- READING: the parts of every room are there
pub has_parts : (h : ℕ) (M texts store : List ℕ) → Laid h M → length texts ≡ h * 32 → length store ≡ 4096 → (m : ℕ) → m < h → HasParts M texts store m
has_parts h M texts store L parts full m l =
    record { row = omega (arith, L.rows); short = omega arith; long = λ s. omega (arith, (L.right m l s).0.1) }
