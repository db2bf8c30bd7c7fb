-- THE TEXT OF A ROOM, by where it lies.
use mathlib.Core.Path.{◌≡◌, sym, ap, ap₂, ◌∙◌}
use mathlib.Core.Bool.{true}
use mathlib.Core.List.{List, [], ◌++◌}
use Prim.Native.Nat.{ℕ, ◌*◌, ◌≤◌, ◌<◌}
use native.Mathlib.Omega.{arith}
use lib.ListN.{length, take, drop, length-take}
use lib.Seq.{take-length}
use borrow.Author.Tests.{eq-eqb, ne_eqb, le-leb, lt-leb}
use Rattle.protocol.proofs.Tests.{by_lt, by_eq}
use Rattle.messages.specs.View.{Rooms}
use Rattle.messages.specs.Texts.{text_in}
use Rattle.store.specs.Texts.{is_stored, text_of}
use Rattle.store.proofs.Looks.{stored_is_held, stored_is_long, held_and_long}

-- by where the text of room m lies
pub by_text {ℓ} : {P : Type ℓ} (R : Rooms) (m : ℕ) → (R.waiting m ≡ 0 → P) → ((R.waiting m ≡ 0 → ⊥) → R.length m ≤ 32 → P) → (is_stored R m ≡ true → P) → P
by_text R m free short long =
    by_eq (R.waiting m) 0 free (λ held. by_lt 32 (R.length m) (λ l. long (held_and_long R m held l)) (short held))

module _ (texts store : List ℕ) (R : Rooms) (m : ℕ) where
  pub no_text : R.waiting m ≡ 0 → text_of texts store R m ≡ []
  unfolding text_of
  no_text free = rw (eq-eqb (R.waiting m) 0 free)

  pub short_text : (R.waiting m ≡ 0 → ⊥) → R.length m ≤ 32 → text_of texts store R m ≡ text_in texts (R.length m) m
  unfolding text_of
  short_text held short = rw (ne_eqb (R.waiting m) 0 held, le-leb (R.length m) 32 short)

  pub long_text : is_stored R m ≡ true → text_of texts store R m ≡ take (R.length m) (drop (R.offset m) store)
  unfolding text_of
  long_text s = rw (ne_eqb (R.waiting m) 0 (stored_is_held R m s), lt-leb (R.length m) 32 (stored_is_long R m s))

  -- the octets that were read are the text, where the code found w stations waited for, and n octets
  module _ (w n : ℕ) (waits : w ≡ R.waiting m) (some : w ≡ 0 → ⊥) (octets : n ≡ R.length m) (read : List ℕ) where
    waited : R.waiting m ≡ 0 → ⊥
    waited z = some (waits ∙ z)

    pub short_read : n ≤ 32 → read ≡ take n (drop (m * 32) texts) → read ≡ text_of texts store R m
    unfolding text_in
    short_read short e = e ∙ ap (λ (k : ℕ). text_in texts k m) octets ∙ sym (short_text waited (omega arith))

    pub is_stored_lem : 32 < n → is_stored R m ≡ true
    is_stored_lem long = held_and_long R m waited (omega arith)

    pub long_read : 32 < n → (offset : ℕ) → offset ≡ R.offset m → read ≡ take n (drop offset store) → read ≡ text_of texts store R m
    long_read long offset begins e = e ∙ ap₂ (λ (k o : ℕ). take k (drop o store)) octets begins ∙ sym (long_text (is_stored_lem long))

  -- no text is longer than its row says
  pub text_no_longer : length (text_of texts store R m) ≤ R.length m
  unfolding text_in
  text_no_longer =
      by_text R m
      (λ free. rw (no_text free) (omega arith))
      (λ held short. rw (short_text held short) (simp length-take (omega arith)))
      (λ s. rw (long_text s) (simp length-take (omega arith)))

-- A COPY of a text, to the front of a buffer
pub part_fits : (l part : List ℕ) (n room : ℕ) → part ≡ take n l → n ≤ room → length part ≤ room
part_fits l part n room e h = rw e (simp length-take (omega arith))

pub copied_text : (text source buffer : List ℕ) → source ≡ text → take (length source) source ++ drop (length source) buffer ≡ text ++ drop (length text) buffer
copied_text text source buffer e = ap (λ (l : List ℕ). take (length l) l ++ drop (length l) buffer) e ∙ ap (λ (l : List ℕ). l ++ drop (length text) buffer) (take-length text)
