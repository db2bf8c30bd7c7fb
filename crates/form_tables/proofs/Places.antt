-- Places at, or between, stations of the floor; and which carts have entered.
use mathlib.Core.Path.{◌≡◌, refl, sym, ap, ◌∙◌}
use mathlib.Core.Bool.{Bool, true, false}
use Prim.Native.Nat.{ℕ, ◌≤◌, ◌<◌}
use native.Mathlib.Omega.{arith}
use lib.Dec.{ltb}
use borrow.Author.Tests.{ltb-true, ltb-false, not-true}
use Rattle.protocol.specs.Floor.{Floor, Place, outside, at, leaving, travelling, limits, entered}
use Rattle.protocol.specs.Claims.{Claim, True, test, all, both, when, lt, le, eq}
use Rattle.protocol.specs.Form.{place_inside, cart_rule}
use Rattle.protocol.proofs.Tests.{by_test, clash}
use Rattle.protocol.proofs.Answers.{yes, no, same_answer}

module _ (F : Floor) (p : Place) where
  pub inside_outside : p ≡ outside → true ≡ test (place_inside limits F p)
  unfolding test
  inside_outside e = sym (ap (λ (q : Place). test (place_inside limits F q)) e)

  pub inside_at : (s n : ℕ) → F.stations ≡ n → p ≡ at s → ltb s n ≡ test (place_inside limits F p)
  inside_at s n en e =
      by_test (ltb s n)
      (λ q. q ∙ yes (lt s F.stations) (omega (arith, ltb-true s n q)))
      (λ q. q ∙ no (lt s F.stations) (λ h. omega (arith, ltb-false s n q)))
      ∙ sym (ap (λ (q : Place). test (place_inside limits F q)) e)

  pub inside_leaving : (s t n : ℕ) → F.stations ≡ n → p ≡ leaving s t → (r : Bool) → r ≡ test (both (lt s n) (lt t n)) → r ≡ test (place_inside limits F p)
  inside_leaving s t n en e r g =
      g ∙ ap (λ (k : ℕ). test (both (lt s k) (lt t k))) (sym en) ∙ sym (ap (λ (q : Place). test (place_inside limits F q)) e)

  pub inside_travelling : (s t n : ℕ) → F.stations ≡ n → p ≡ travelling s t → (r : Bool) → r ≡ test (both (lt s n) (lt t n)) → r ≡ test (place_inside limits F p)
  inside_travelling s t n en e r g =
      g ∙ ap (λ (k : ℕ). test (both (lt s k) (lt t k))) (sym en) ∙ sym (ap (λ (q : Place). test (place_inside limits F q)) e)

-- A CART'S RULE, by whether it has entered
module _ (F : Floor) (c : ℕ) where
  -- from the first initiator on
  abbrev blank : Claim
  blank = all 16 (λ s. when (le 0 s) (eq (F.next c s) 0))

  abbrev below : Claim
  below = all 16 (λ s. le (F.next c s) (F.sent s))

  not_entered : (p : Place) → entered p ≡ false → True (place_inside limits F p)
  not_entered outside e = refl
  not_entered (at s) e = clash true refl e
  not_entered (leaving s u) e = clash true refl e
  not_entered (travelling s u) e = clash true refl e

  -- a row of zeros is all that is asked of a cart that has not
  pub cart_outside : (r : Bool) → entered (F.place c) ≡ false → r ≡ test blank → r ≡ test (cart_rule limits F c)
  cart_outside r e g =
      g ∙ same_answer blank (cart_rule limits F c)
      (λ h. (not_entered (F.place c) e, ((λ q. clash (entered (F.place c)) q e), ((λ q s l. h s l (omega arith)), (λ s l. omega (arith, h s l (omega arith)))))))
      (λ h s l z. h.1.1.0 (rw e) s l)

  -- a cart that is not on the floor has not entered
  pub cart_beyond : entered (F.place c) ≡ true → F.carts ≤ c → false ≡ test (cart_rule limits F c)
  cart_beyond e l = no (cart_rule limits F c) (λ h. omega (arith, h.1.0 e))

  -- its place is not on the floor
  pub cart_lost : (True (place_inside limits F (F.place c)) → ⊥) → false ≡ test (cart_rule limits F c)
  cart_lost n = no (cart_rule limits F c) (λ h. n h.0)

  pub cart_inside : (r : Bool) → entered (F.place c) ≡ true → c < F.carts → True (place_inside limits F (F.place c)) → r ≡ test below → r ≡ test (cart_rule limits F c)
  cart_inside r e l p g =
      g ∙ same_answer below (cart_rule limits F c)
      (λ h. (p, ((λ q. l), ((λ q. clash (entered (F.place c)) e (not-true (entered (F.place c)) q)), h))))
      (λ h. h.1.1.1)
