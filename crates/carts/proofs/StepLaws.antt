-- THE STEPS OF A CART'S RECORD, on the carts of a table; and the words of a place.
use mathlib.Core.Path.{◌≡◌, refl, sym, ap, ◌∙◌}
use mathlib.Core.Bool.{Bool, true, cond}
use mathlib.Core.List.{List, [], ◌∷◌}
use Prim.Native.Nat.{ℕ, zero, suc, ◌+◌, ◌≤◌, ◌<◌}
use native.Mathlib.Omega.{arith}
use lib.Dec.{eqb}
use lib.ListN.{length, get_or, set, get_or-eq_default}
use lib.Seq.{get_or-set_same}
use borrow.Author.Tests.{eqb-true, lt-ltb}
use Rattle.protocol.specs.Folds.{every, list_of, update}
use Rattle.protocol.specs.Floor.{outside, at, leaving, travelling, Carts}
use Rattle.protocol.proofs.Tests.{by_test, by_lt, and_left, and_right, every_at, every_all, on_update, length_list_of, list_of_at, list_of_past}
use Rattle.protocol.specs.Floor as floor
use Rattle.ids.specs.declared.Station.{Station}
use Rattle.ids.specs.declared.MessageNumber.{MessageNumber}
use Rattle.carts.specs.declared.Place.{Place}
use Rattle.carts.specs.declared.Place.TheVariants.{Outside, At, Leaving, Travelling}
use Rattle.carts.specs.declared.Cart.{Cart}
use Rattle.carts.specs.Words.{place_in, canonical}
use Rattle.carts.specs.Records.{seen, greeted_place, greeted, departed_place, departed, arrived, number_after, received, told, all_zero, retired}
use Rattle.carts.specs.View.{with_place, with_steady, with_row, with_outside, with_cart, IsCart}

-- a list has nothing to change behind its end
pub set_beyond : (l : List ℕ) (i v : ℕ) → length l ≤ i → l ≡ set l i v
set_beyond [] i v h = refl
set_beyond (x ∷ l) zero v h = absurd (omega arith)
set_beyond (x ∷ l) (suc i) v h = ap (λ (k : List ℕ). x ∷ k) (set_beyond l i v (omega arith))

-- THE WORDS OF A PLACE

-- the three words that a place is written in
abbrev pub kind_of : floor.Place → ℕ
kind_of outside = 0
kind_of (at s) = 1
kind_of (leaving s t) = 2
kind_of (travelling s t) = 3

abbrev pub first_of : floor.Place → ℕ
first_of outside = 0
first_of (at s) = s
first_of (leaving s t) = s
first_of (travelling s t) = s

abbrev pub second_of : floor.Place → ℕ
second_of outside = 0
second_of (at s) = 0
second_of (leaving s t) = t
second_of (travelling s t) = t

-- a place has one canonical writing
pub canonical_words : (kind s t : ℕ) → canonical kind s t ≡ true → (kind ≡ kind_of (place_in kind s t)) × (s ≡ first_of (place_in kind s t)) × (t ≡ second_of (place_in kind s t))
canonical_words zero s t e = (refl, eqb-true s 0 (and_left (eqb s 0) (eqb t 0) e), eqb-true t 0 (and_right (eqb s 0) (eqb t 0) e))
canonical_words (suc zero) s t e = (refl, refl, eqb-true t 0 e)
canonical_words (suc (suc zero)) s t e = (refl, refl, refl)
canonical_words (suc (suc (suc zero))) s t e = (refl, refl, refl)
canonical_words (suc (suc (suc (suc kind)))) s t e = absurd (let z : ◌≡◌ {A = ℕ} 0 1 = cc in omega arith)

-- and that is one
pub words_canonical : (p : floor.Place) → (canonical (kind_of p) (first_of p) (second_of p) ≡ true) × (place_in (kind_of p) (first_of p) (second_of p) ≡ p)
words_canonical outside = (refl, refl)
words_canonical (at s) = (refl, refl)
words_canonical (leaving s t) = (refl, refl)
words_canonical (travelling s t) = (refl, refl)

-- where all rows are canonical, a place put in one leaves them so
pub still_canonical : (n : ℕ) (K : ℕ → Bool) (c : ℕ) → every n K ≡ true → every n (update K c true) ≡ true
still_canonical n K c e =
    every_all n (update K c true) (λ d l. on_update (λ b. b ≡ true) K c true d (λ q. refl) (λ q. every_at n K e d l))

-- where those before c are, those up to c are once c's place is put
pub one_more_canonical : (K : ℕ → Bool) (c : ℕ) → every c K ≡ true → every (c + 1) (update K c true) ≡ true
one_more_canonical K c e =
    every_all (c + 1) (update K c true) (λ d l. on_update (λ b. b ≡ true) K c true d (λ q. refl) (λ q. every_at c K e d (omega arith)))

-- THE STEPS

-- "all next numbers 0"
pub zeros : (s : ℕ) → get_or all_zero s 0 ≡ 0
zeros s = let none : ℕ → ℕ = λ _. 0 in by_lt s 16 (λ l. list_of_at 16 none 0 s l) (λ l. list_of_past 16 none 0 s l)

-- beyond sixteen initiators there are no next numbers
abbrev pub Sixteen : Carts → Type 0
Sixteen C = (d s : ℕ) → 16 ≤ s → C.next d s ≡ 0

-- a flag changed for itself
flag_same : (f : ℕ → Bool) (c : ℕ) (b : Bool) → b ≡ f c → (d : ℕ) → update f c b d ≡ f d
flag_same f c b e d = by_test (eqb d c) (λ q. rw q (e ∙ ap f (sym (eqb-true d c q)))) (λ q. rw q)

module _ (C : Carts) (sixteen : Sixteen C) (c : ℕ) (k : Cart) (is : IsCart C c k) where
  -- a cart's next numbers are those of its record
  pub entry : (s : ℕ) → get_or k.next s 0 ≡ C.next c s
  entry s =
      ap (λ (row : List ℕ). get_or row s 0) is.next
      ∙ by_lt s 16
      (λ l. list_of_at 16 (C.next c) 0 s l)
      (λ l. get_or-eq_default (list_of 16 (C.next c)) 0 (let z = length_list_of 16 (C.next c) in omega arith) ∙ sym (sixteen c s l))

  -- the cart's own row, put in its record
  row_same : (row : List ℕ) → row ≡ k.next → (d s : ℕ) → cond (eqb d c) (get_or row s 0) (C.next d s) ≡ C.next d s
  row_same row n d s =
      by_test (eqb d c)
      (λ q. rw q (ap (λ (l : List ℕ). get_or l s 0) n ∙ entry s ∙ ap (λ (x : ℕ). C.next x s) (sym (eqb-true d c q))))
      (λ q. rw q)

  -- a record with the same next numbers and the same flag changes the place alone
  place_only : (p : floor.Place) (k' : Cart) → seen k'.place ≡ p → k'.next ≡ k.next → k'.steady ≡ k.steady → with_cart C c k' ≡ with_place C c p
  place_only p k' e n f =
      λ i. record {
        place = update C.place c (e i);
        next = λ d s. row_same k'.next n d s i;
        steady = λ d. flag_same C.steady c k'.steady (f ∙ is.steady) d i;
      }

  -- "the cart is leaving"
  pub greet_step : (s : ℕ) (to : Station) (k' : Cart) → C.place c ≡ at s → k' ≡ greeted k to → with_cart C c k' ≡ with_place C c (leaving s to.0)
  greet_step s to k' e g = place_only (leaving s to.0) k' (ap (λ x. seen x.place) g ∙ leaves k.place (is.place ∙ e)) (ap (λ x. x.next) g) (ap (λ x. x.steady) g)
    where
      leaves : (p : Place) → seen p ≡ at s → seen (greeted_place p to) ≡ leaving s to.0
      leaves Outside q = cc
      leaves (At r) q = cc
      leaves (Leaving r t) q = cc
      leaves (Travelling r t) q = cc

  -- "travelling (its register is on a line)"
  pub depart_step : (s t : ℕ) (k' : Cart) → C.place c ≡ leaving s t → k' ≡ departed k → with_cart C c k' ≡ with_place C c (travelling s t)
  depart_step s t k' e g = place_only (travelling s t) k' (ap (λ x. seen x.place) g ∙ goes k.place (is.place ∙ e)) (ap (λ x. x.next) g) (ap (λ x. x.steady) g)
    where
      goes : (p : Place) → seen p ≡ leaving s t → seen (departed_place p) ≡ travelling s t
      goes Outside q = cc
      goes (At r) q = cc
      goes (Leaving r u) q = cc
      goes (Travelling r u) q = cc

  -- "the cart is at this station": its flag stays
  pub arrive_step : (station : Station) (row : List ℕ) (k' : Cart) → k' ≡ arrived k station row → with_cart C c k' ≡ with_row (with_place C c (at station.0)) c row
  arrive_step station row k' g =
      ap (λ x. with_cart C c x) g
      ∙ (λ i. record {
        place = update C.place c (at station.0);
        next = λ d s. cond (eqb d c) (get_or row s 0) (C.next d s);
        steady = λ d. flag_same C.steady c k.steady is.steady d i;
      })

  -- a cart that is told steady or not keeps its place and its next numbers
  pub told_step : (b : Bool) (k' : Cart) → k' ≡ told k b → with_cart C c k' ≡ with_steady C c b
  told_step b k' g =
      ap (λ x. with_cart C c x) g
      ∙ (λ i. record { place = λ d. place_same d i; next = λ d s. row_same k.next refl d s i; steady = update C.steady c b })
    where
      place_same : (d : ℕ) → update C.place c (seen k.place) d ≡ C.place d
      place_same d = by_test (eqb d c) (λ q. rw q (is.place ∙ ap C.place (sym (eqb-true d c q)))) (λ q. rw q)

  -- a cart that goes back keeps only its flag
  pub retire_step : (k' : Cart) → k' ≡ retired k → with_cart C c k' ≡ with_outside C c
  retire_step k' g =
      ap (λ x. with_cart C c x) g
      ∙ (λ i. record {
        place = update C.place c outside;
        next = λ d s. cond (eqb d c) (zeros s i) (C.next d s);
        steady = λ d. flag_same C.steady c k.steady is.steady d i;
      })

  -- "its next number rises": that of the record received
  pub receive_entry : (s : Station) (n : MessageNumber) (k' : Cart) → s.0 < 16 → n.0 < 18446744073709551615 → k' ≡ received k s n → get_or k'.next s.0 0 ≡ n.0 + 1
  receive_entry s n k' h low g =
      ap (λ x. get_or x.next s.0 0) g
      ∙ get_or-set_same k.next s.0 (number_after n.0) 0 (let z = ap length is.next ∙ length_list_of 16 (C.next c) in omega arith)
      ∙ rw (lt-ltb n.0 18446744073709551615 low)
