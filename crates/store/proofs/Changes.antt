-- ONE ROOM CHANGED: what that makes of the texts of all rooms, and that the texts of the store still lie right.
use mathlib.Core.Path.{◌≡◌, refl, sym, ap, fun_ext, ◌∙◌}
use mathlib.Core.Bool.{true, cond}
use mathlib.Core.List.{List, []}
use Prim.Native.Nat.{ℕ, ◌+◌, ◌≤◌, ◌<◌}
use native.Mathlib.Omega.{arith}
use lib.Dec.{eqb, leb}
use lib.ListN.{length, take, drop}
use lib.Seq.{paste, take-length}
use borrow.Author.Tests.{eqb-false, eq-eqb, ne_eqb, leb-true, le-leb, lt-leb}
use Rattle.protocol.specs.Folds.{update}
use Rattle.protocol.specs.Claims.{True}
use Rattle.protocol.proofs.Tests.{by_test, by_eq, eqb_self, or_left, or_right}
use Rattle.messages.specs.View.{Rooms, with_acked, with_waiting, with_message}
use Rattle.messages.specs.Texts.{text_in}
use Rattle.store.specs.Texts.{is_stored, text_of}
use Rattle.store.specs.Layout.{within, apart, layout_rule}
use Rattle.store.proofs.Looks.{stored_is_held, stored_is_long, held_and_long}
use Rattle.store.proofs.Octets.{pasted_here, before_pasted}
use Rattle.store.proofs.Apart.{by_apart}
use Rattle.store.proofs.TextLaws.{by_text}

-- THE TEXTS

-- other carts are known to have a message: no text is another
pub texts_acked : (texts store : List ℕ) (R : Rooms) (m carts : ℕ) → text_of texts store (with_acked R m carts) ≡ text_of texts store R
unfolding text_of
texts_acked texts store R m carts = refl

-- fewer stations are waited for: where none is, the room has no text any more
pub texts_waiting : (texts store : List ℕ) (R : Rooms) (m w : ℕ) → (R.waiting m ≡ 0 → w ≡ 0)
    → text_of texts store (with_waiting R m w) ≡ update (text_of texts store R) m (cond (eqb w 0) [] (text_of texts store R m))
unfolding text_of
texts_waiting texts store R m w fewer =
    fun_ext (λ k. by_eq k m
    (λ e. rw (e, eqb_self m) (by_test (eqb w 0) (λ q. rw q) (λ q. rw (q, ne_eqb (R.waiting m) 0 (λ z. eqb-false w 0 q (fewer z))))))
    (λ ne. rw (ne_eqb k m ne)))

-- A NEW MESSAGE IN ROOM m: its text is the new one, and the others are what they were
module _ (R : Rooms) (m s n named w : ℕ) (offset : ℕ) (text : List ℕ) (held : w ≡ 0 → ⊥) where
  abbrev with_text_lem : Rooms
  with_text_lem = with_message R m s n named w (length text) offset

  -- a short text, put into its room's part
  pub texts_short : (texts texts' store : List ℕ) → length text ≤ 32 → text_in texts' (length text) m ≡ text
      → ((k i : ℕ) → (k ≡ m → ⊥) → i ≤ 32 → text_in texts' i k ≡ text_in texts i k)
      → text_of texts' store with_text_lem ≡ update (text_of texts store R) m text
  unfolding text_of
  texts_short texts texts' store short here others =
      fun_ext (λ k. by_eq k m
      (λ e. rw (e, eqb_self m, ne_eqb w 0 held, le-leb (length text) 32 short) here)
      (λ ne. rw (ne_eqb k m ne) (by_test (leb (R.length k) 32)
      (λ q. rw q (ap (cond (eqb (R.waiting k) 0) []) (others k (R.length k) ne (leb-true (R.length k) 32 q))))
      (λ q. rw q))))

  -- a long text, put behind all texts of the store
  module _ (store : List ℕ) (room : offset + length text ≤ length store) (free : (k : ℕ) → is_stored R k ≡ true → R.offset k + R.length k ≤ offset) where
    pub texts_long : (texts store' : List ℕ) → 32 < length text → store' ≡ paste store offset text (length text)
        → text_of texts store' with_text_lem ≡ update (text_of texts store R) m text
    unfolding text_of
    texts_long texts store' long put =
        fun_ext (λ k. by_eq k m
        (λ e. rw (e, eqb_self m, ne_eqb w 0 held, lt-leb (length text) 32 long)
        (ap (λ (l : List ℕ). take (length text) (drop offset l)) put ∙ pasted_here store text offset (length text) room (omega arith) ∙ take-length text))
        (λ ne. rw (ne_eqb k m ne) (by_text R k
        (λ none. rw (eq-eqb (R.waiting k) 0 none))
        (λ waited short. rw (ne_eqb (R.waiting k) 0 waited, le-leb (R.length k) 32 short))
        (λ z. rw (ne_eqb (R.waiting k) 0 (stored_is_held R k z), lt-leb (R.length k) 32 (stored_is_long R k z))
        (ap (λ (l : List ℕ). take (R.length k) (drop (R.offset k) l)) put ∙ before_pasted store text offset (length text) room (omega arith) (R.offset k) (R.length k) (free k z))))))

-- THE FORM

module _ (R : Rooms) (k m : ℕ) where
  apart_first : R.offset k + R.length k ≤ R.offset m → True (apart R k m)
  apart_first l = or_left (leb (R.offset k + R.length k) (R.offset m)) (leb (R.offset m + R.length m) (R.offset k)) (le-leb (R.offset k + R.length k) (R.offset m) l)

  apart_second : R.offset m + R.length m ≤ R.offset k → True (apart R k m)
  apart_second l = or_right (leb (R.offset k + R.length k) (R.offset m)) (leb (R.offset m + R.length m) (R.offset k)) (le-leb (R.offset m + R.length m) (R.offset k) l)

-- what lies in the store lay there
pub record Lay (R R' : Rooms) (k : ℕ) : Type 0 where
  pub stored : is_stored R k ≡ true
  pub offset : R'.offset k ≡ R.offset k
  pub length : R'.length k ≡ R.length k

module _ (h : ℕ) (R R' : Rooms) (right : True (layout_rule h R)) where
  still_within : (m : ℕ) → m < h → Lay R R' m → True (within R' m)
  still_within m l M = let w = (right m l M.stored).0 in (omega (arith, w.0, M.length), omega (arith, w.1, M.offset, M.length))

  still_apart : (k m : ℕ) → k < m → m < h → Lay R R' k → Lay R R' m → True (apart R' k m)
  still_apart k m lk l K M =
      by_apart h R right k m (omega arith) l K.stored M.stored (λ e. absurd (omega arith))
      (λ z. apart_first R' k m (omega (arith, K.offset, K.length, M.offset)))
      (λ z. apart_second R' k m (omega (arith, K.offset, M.length, M.offset)))

  right_less : ((k : ℕ) → is_stored R' k ≡ true → Lay R R' k) → True (layout_rule h R')
  right_less lay m l s = (still_within m l (lay m s), (λ k lk t. still_apart k m lk l (lay k t) (lay m s)))

pub right_waiting : (h : ℕ) (R : Rooms) (m w : ℕ) → (R.waiting m ≡ 0 → w ≡ 0) → True (layout_rule h R) → True (layout_rule h (with_waiting R m w))
right_waiting h R m w fewer right = right_less h R (with_waiting R m w) right (λ k s. record { stored = was k s; offset = refl; length = refl })
  where
    was : (k : ℕ) → is_stored (with_waiting R m w) k ≡ true → is_stored R k ≡ true
    was k s =
        held_and_long R k
        (λ z. stored_is_held (with_waiting R m w) k s (by_eq k m (λ e. rw (e, eqb_self m) (fewer (ap R.waiting (sym e) ∙ z))) (λ ne. rw (ne_eqb k m ne) z)))
        (stored_is_long (with_waiting R m w) k s)

-- a new message in room m, whose text has so many octets, and begins at `offset` if it is long
module _ (h : ℕ) (R : Rooms) (m s n named w octets offset : ℕ) (right : True (layout_rule h R)) where
  abbrev with_new : Rooms
  with_new = with_message R m s n named w octets offset

  lay_other : (k : ℕ) → (k ≡ m → ⊥) → is_stored with_new k ≡ true → Lay R with_new k
  lay_other k ne t = record { stored = sym same ∙ t; offset = rw (ne_eqb k m ne); length = rw (ne_eqb k m ne) }
    where
      same : is_stored with_new k ≡ is_stored R k
      same = rw (ne_eqb k m ne)

  pub right_short : octets ≤ 32 → True (layout_rule h with_new)
  right_short short =
      right_less h R with_new right (λ k t. by_eq k m
      (λ e. absurd (let z = stored_is_long with_new k t in let y : with_new.length k ≡ octets = rw (e, eqb_self m) in omega arith))
      (λ ne. lay_other k ne t))

  pub right_long : octets ≤ 512 → offset + octets ≤ 4096 → ((k : ℕ) → is_stored R k ≡ true → R.offset k + R.length k ≤ offset) → True (layout_rule h with_new)
  right_long long inside free j l t = by_eq j m (λ e. (its_own e, λ k lk u. before_it e k (lay_other k (λ q. absurd (omega arith)) u))) (λ ne. let J = lay_other j ne t in
      (still_within h R with_new right j l J, λ k lk u. by_eq k m (λ e. behind_it e J) (λ nk. still_apart h R with_new right k j lk l (lay_other k nk u) J)))
    where
      its_offset : {j : ℕ} → j ≡ m → with_new.offset j ≡ offset
      its_offset {j} e = rw (e, eqb_self m)

      its_length : {j : ℕ} → j ≡ m → with_new.length j ≡ octets
      its_length {j} e = rw (e, eqb_self m)

      its_own : {j : ℕ} → j ≡ m → True (within with_new j)
      its_own e = (omega (arith, its_length e), omega (arith, its_length e, its_offset e))

      before_it : {j : ℕ} → j ≡ m → (k : ℕ) → Lay R with_new k → True (apart with_new k j)
      before_it {j} e k K = apart_first with_new k j (omega (arith, its_offset e, free k K.stored, K.offset, K.length))

      behind_it : {k j : ℕ} → k ≡ m → Lay R with_new j → True (apart with_new k j)
      behind_it {k} {j} e J = apart_second with_new k j (omega (arith, its_offset e, free j J.stored, J.offset, J.length))
