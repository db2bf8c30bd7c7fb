-- THE OCTETS TAKEN are those that the written floor counts.
use mathlib.Core.Path.{◌≡◌, sym, ap, ◌∙◌}
use mathlib.Core.Bool.{true, cond}
use mathlib.Core.List.{List}
use Prim.Native.Nat.{ℕ, ◌+◌, ◌≤◌, ◌<◌}
use native.Mathlib.Omega.{arith}
use lib.Dec.{eqb}
use lib.ListN.{length, drop, length-drop}
use lib.Seq.{length-take-le}
use borrow.Author.Tests.{eq-eqb, ne_eqb, lt-ltb, le-ltb}
use Rattle.protocol.specs.Floor.{Limits}
use Rattle.protocol.specs.Store.{store_used, stored_of}
use Rattle.protocol.specs.Claims.{True}
use Rattle.protocol.proofs.Counting.{sum_ext}
use Rattle.messages.specs.View.{Rooms}
use Rattle.store.specs.Texts.{is_stored, text_of}
use Rattle.store.specs.Layout.{layout_rule, taken_by, used_in}
use Rattle.store.proofs.Looks.{stored_is_held, stored_is_long}
use Rattle.store.proofs.TextLaws.{by_text, no_text, long_text, text_no_longer}
use Rattle.store.proofs.Fits.{texts_fit}

module _ (texts store : List ℕ) (R : Rooms) (m : ℕ) where
  -- a text within the store is as long as its row says
  pub long_length : is_stored R m ≡ true → R.offset m + R.length m ≤ length store → length (text_of texts store R m) ≡ R.length m
  long_length s l = ap length (long_text texts store R m s) ∙ length-take-le (R.length m) (drop (R.offset m) store) (simp length-drop (omega arith))

  -- what room m takes of the store
  taken_is : (M : Limits) → M.text ≡ 32 → (is_stored R m ≡ true → R.offset m + R.length m ≤ length store)
      → taken_by R m ≡ cond (eqb (R.waiting m) 0) 0 (stored_of M (text_of texts store R m))
  taken_is M e inside =
      by_text R m
      (λ free. rw (eq-eqb (R.waiting m) 0 free))
      (λ held short. rw (ne_eqb (R.waiting m) 0 held, le-ltb 32 (R.length m) short, le-ltb M.text (length (text_of texts store R m)) (omega (arith, e, text_no_longer texts store R m))))
      (λ s. let z = long_length s (inside s) in
      rw (s, ne_eqb (R.waiting m) 0 (stored_is_held R m s), lt-ltb M.text (length (text_of texts store R m)) (omega (arith, e, stored_is_long R m s))) (sym z))

pub used_is : (M : Limits) (texts store : List ℕ) (R : Rooms) → M.text ≡ 32 → length store ≡ 4096 → True (layout_rule M.held R)
    → used_in M.held R ≡ store_used M R.waiting (text_of texts store R)
used_is M texts store R e full right =
    sum_ext M.held (taken_by R) (λ m. cond (eqb (R.waiting m) 0) 0 (stored_of M (text_of texts store R m)))
    (λ m l. taken_is texts store R m M e (λ s. omega (arith, full, (right m l s).0.1)))

-- so they are no more than the store has
pub store_fits : (M : Limits) (texts store : List ℕ) (R : Rooms) → M.text ≡ 32 → length store ≡ 4096 → True (layout_rule M.held R)
    → store_used M R.waiting (text_of texts store R) ≤ 4096
store_fits M texts store R e full right = let z = used_is M texts store R e full right in omega (arith, texts_fit M.held R right)

-- and no text is longer than a long one
pub text_most : (h : ℕ) (texts store : List ℕ) (R : Rooms) → True (layout_rule h R) → (m : ℕ) → m < h → length (text_of texts store R m) ≤ 512
text_most h texts store R right m l =
    by_text R m
    (λ free. rw (no_text texts store R m free) (omega arith))
    (λ held short. omega (arith, text_no_longer texts store R m))
    (λ s. omega (arith, text_no_longer texts store R m, (right m l s).0.0))
