-- Laws of a number's bits as 0 and 1, from those of sets.
use mathlib.Core.Path.{◌≡◌, refl, sym, ap, ◌∙◌}
use mathlib.Core.Bool.{Bool, true, false, not, ◌&&◌, ◌||◌}
use Prim.Native.Nat.{ℕ, ◌-◌, ◌≤◌, ◌<◌, max}
use lib.Dec.{eqb, ltb}
use borrow.Author.Tests.{eq-eqb, eqb-true, ne_eqb, lt-ltb, le-ltb}
use Rattle.protocol.specs.CartSets.{digit, has, with, without}
use Rattle.protocol.specs.Form.{bit}
use Rattle.protocol.proofs.SetLaws.{has_zero, has_with, has_without}
use Rattle.protocol.proofs.Counting.{same_bits}
use Rattle.sets.proofs.MaskLaws.{digit_is}

-- ---- yes and no
pub same_yes : (x y : ℕ) → x ≡ y → bit (eqb x y) ≡ 1
same_yes x y e = ap bit (eq-eqb x y e)

pub same_no : (x y : ℕ) → (x ≡ y → ⊥) → bit (eqb x y) ≡ 0
same_no x y h = ap bit (ne_eqb x y h)

pub below_yes : (x n : ℕ) → x < n → bit (ltb x n) ≡ 1
below_yes x n h = ap bit (lt-ltb x n h)

pub below_no : (x n : ℕ) → n ≤ x → bit (ltb x n) ≡ 0
below_no x n h = ap bit (le-ltb x n h)

-- ---- bits of a number
pub digit_none : (c : ℕ) → digit 0 c ≡ 0
digit_none c = digit_is 0 c ∙ ap bit (has_zero c)

-- the test of a bit asks for a member
pub digit_has : (x c : ℕ) (b : Bool) → eqb (digit x c) (bit b) ≡ true → has x c ≡ b
digit_has x c b e = same_bits (has x c) b (sym (digit_is x c) ∙ eqb-true (digit x c) (bit b) e)

pub has_digit : (x c : ℕ) (b : Bool) → has x c ≡ b → eqb (digit x c) (bit b) ≡ true
has_digit x c b e = eq-eqb (digit x c) (bit b) (digit_is x c ∙ ap bit e)

or_bit : (a b : Bool) → bit (a || b) ≡ max (bit a) (bit b)
or_bit true true = refl
or_bit true false = refl
or_bit false true = refl
or_bit false false = refl

but_bit : (a b : Bool) → bit (a && not b) ≡ bit a - bit b
but_bit true true = refl
but_bit true false = refl
but_bit false true = refl
but_bit false false = refl

-- with one more, or without one
pub with_digit : (x b c : ℕ) → digit (with x b) c ≡ max (digit x c) (bit (eqb b c))
with_digit x b c = digit_is (with x b) c ∙ ap bit (has_with x b c) ∙ or_bit (has x c) (eqb b c) ∙ ap (λ (d : ℕ). max d (bit (eqb b c))) (sym (digit_is x c))

pub without_digit : (x b c : ℕ) → digit (without x b) c ≡ digit x c - bit (eqb b c)
without_digit x b c = digit_is (without x b) c ∙ ap bit (has_without x b c) ∙ but_bit (has x c) (eqb b c) ∙ ap (λ (d : ℕ). d - bit (eqb b c)) (sym (digit_is x c))
