-- A LOOK AT ONE ROOM, OR AT TWO: what the small tests and numbers are, by what was read.
use mathlib.Core.Path.{◌≡◌, sym, ap, ap₂, ◌∙◌}
use mathlib.Core.Bool.{Bool, true, false, cond, not, ◌&&◌, ◌||◌}
use Prim.Native.Nat.{ℕ, ◌+◌, ◌-◌, ◌≤◌, ◌<◌}
use native.Mathlib.Omega.{arith}
use lib.Dec.{eqb, ltb, leb}
use borrow.Author.Tests.{not-true, not-false, leb-true, le-leb, lt-leb, lt-ltb, ltb-true, eq-eqb, ne_eqb, eqb-false}
use Rattle.protocol.proofs.Tests.{same_test, and_intro, and_left, and_right}
use Rattle.messages.specs.View.{Rooms}
use Rattle.store.specs.Texts.{is_stored}
use Rattle.store.specs.Moved.{begin_from}

-- DOES A TEXT LIE IN THE STORE

module _ (R : Rooms) (m : ℕ) where
  pub stored_no : (w : ℕ) → w ≡ R.waiting m → w ≡ 0 → false ≡ is_stored R m
  stored_no w e q = rw (eq-eqb (R.waiting m) 0 (sym e ∙ q))

  pub stored_by : (w n : ℕ) → w ≡ R.waiting m → (w ≡ 0 → ⊥) → n ≡ R.length m → ltb 32 n ≡ is_stored R m
  stored_by w n e q d = rw (ne_eqb (R.waiting m) 0 (λ z. q (e ∙ z))) (ap (ltb 32) d)

  pub stored_is_held : is_stored R m ≡ true → R.waiting m ≡ 0 → ⊥
  stored_is_held s = eqb-false (R.waiting m) 0 (not-true _ (and_left (not (eqb (R.waiting m) 0)) (ltb 32 (R.length m)) s))

  pub stored_is_long : is_stored R m ≡ true → 32 < R.length m
  stored_is_long s = ltb-true 32 (R.length m) (and_right (not (eqb (R.waiting m) 0)) (ltb 32 (R.length m)) s)

  pub held_and_long : (R.waiting m ≡ 0 → ⊥) → 32 < R.length m → is_stored R m ≡ true
  held_and_long h l = and_intro _ _ (ap not (ne_eqb (R.waiting m) 0 h)) (lt-ltb 32 (R.length m) l)

-- A NUMBER THAT ONLY A TEXT IN THE STORE HAS

pub none_where_not : (b r : Bool) (x : ℕ) → r ≡ b → not r ≡ true → 0 ≡ cond b x 0
none_where_not b r x e q = rw (sym e ∙ not-true r q)

pub its_own : (b r : Bool) (x y : ℕ) → r ≡ b → not r ≡ false → y ≡ x → y ≡ cond b x 0
its_own b r x y e q d = rw (sym e ∙ not-false r q) d

-- where it begins, if that is at or behind `from`
module _ (R : Rooms) (from m : ℕ) (r : Bool) (e : r ≡ is_stored R m) where
  pub begins_nowhere : not r ≡ true → 4096 ≡ begin_from R from m
  begins_nowhere q = rw (sym e ∙ not-true r q)

  pub begins_before : (x : ℕ) → not r ≡ false → x ≡ R.offset m → x < from → 4096 ≡ begin_from R from m
  begins_before x q d l = rw (sym e ∙ not-false r q, lt-leb from (R.offset m) (omega arith))

  pub begins_there : (x : ℕ) → not r ≡ false → x ≡ R.offset m → from ≤ x → x ≡ begin_from R from m
  begins_there x q d l = rw (sym e ∙ not-false r q, le-leb from (R.offset m) (omega arith)) d

-- THE FORM

-- within the store, once the length is known to be at most 512
pub within_by : (l o n x : ℕ) → n ≡ l → x ≡ o → n ≤ 512 → leb x (4096 - n) ≡ (leb l 512 && leb (o + l) 4096)
within_by l o n x e d h =
    same_test (leb x (4096 - n)) (leb l 512 && leb (o + l) 4096)
    (λ q. let z = leb-true x (4096 - n) q in and_intro (leb l 512) (leb (o + l) 4096) (le-leb l 512 (omega arith)) (le-leb (o + l) 4096 (omega arith)))
    (λ q. let z = leb-true (o + l) 4096 (and_right (leb l 512) (leb (o + l) 4096) q) in le-leb x (4096 - n) (omega arith))

-- one of two texts does not end before the other begins, so the question is whether the other does
pub clear_by : (s : Bool) (a b p q x y : ℕ) → s ≡ true → b < a + p → x ≡ b + q → y ≡ a → leb x y ≡ (not s || (leb (a + p) b || leb (b + q) a))
clear_by s a b p q x y e h d f = rw (e, lt-leb (a + p) b h) (ap₂ leb d f)

-- all of it, once the text is known to lie in the store and within it
pub right_by : (s w a r : Bool) → s ≡ true → w ≡ true → r ≡ a → r ≡ (not s || (w && a))
right_by s w a r e d q = rw (e, d) q
