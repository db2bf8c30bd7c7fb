-- TEXTS THAT LIE RIGHT: within the store, and apart.
use mathlib.Core.Path.{◌≡◌}
use mathlib.Core.Bool.{true, false}
use mathlib.Core.List.{List}
use Prim.Native.Nat.{ℕ, ◌+◌, ◌*◌, ◌≤◌, ◌<◌}
use native.Mathlib.Omega.{arith}
use lib.Dec.{leb}
use lib.ListN.{length}
use borrow.Author.Tests.{leb-true, eq-eqb}
use Rattle.protocol.specs.Claims.{True}
use Rattle.protocol.proofs.Tests.{by_lt, or_cases}
use Rattle.messages.specs.View.{Rooms, width, rooms_in}
use Rattle.messages.proofs.RoomLaws.{waiting_past}
use Rattle.store.specs.Texts.{is_stored}
use Rattle.store.specs.Layout.{layout_rule, within}

-- no text beyond the table's rows lies in the store
pub none_beyond : (h : ℕ) (M : List ℕ) → length M ≡ h * width → (k : ℕ) → h ≤ k → is_stored (rooms_in M) k ≡ false
none_beyond h M rows k l = rw (eq-eqb ((rooms_in M).waiting k) 0 (waiting_past M k (omega arith)))

module _ (h : ℕ) (R : Rooms) (right : True (layout_rule h R)) where
  -- a text of the store is within it
  pub text_within : (m : ℕ) → m < h → is_stored R m ≡ true → True (within R m)
  text_within m l s = (right m l s).0

  -- of two texts, one ends before the other begins
  pub by_apart {ℓ} : {P : Type ℓ} (m k : ℕ) → m < h → k < h → is_stored R m ≡ true → is_stored R k ≡ true → (m ≡ k → ⊥)
      → (R.offset m + R.length m ≤ R.offset k → P) → (R.offset k + R.length k ≤ R.offset m → P) → P
  by_apart m k lm lk sm sk ne f g =
      by_lt m k
      (λ l. or_cases (leb (R.offset m + R.length m) (R.offset k)) (leb (R.offset k + R.length k) (R.offset m)) ((right k lk sk).1 m l sm)
      (λ e. f (leb-true (R.offset m + R.length m) (R.offset k) e))
      (λ e. g (leb-true (R.offset k + R.length k) (R.offset m) e)))
      (λ l. or_cases (leb (R.offset k + R.length k) (R.offset m)) (leb (R.offset m + R.length m) (R.offset k)) ((right m lm sm).1 k (omega arith) sk)
      (λ e. g (leb-true (R.offset k + R.length k) (R.offset m) e))
      (λ e. f (leb-true (R.offset m + R.length m) (R.offset k) e)))
