-- The checks of a radio step, one by one.
use mathlib.Core.Path.{◌≡◌, refl, sym, ap, ◌∙◌}
use mathlib.Core.Bool.{Bool, true, false, not}
use mathlib.Core.List.{List, [], ◌∷◌}
use Prim.{tt}
use Prim.Native.Nat.{ℕ, ◌≤◌, ◌<◌}
use native.Mathlib.Omega.{arith}
use borrow.Author.Tests.{le-leb, lt-leb, eq-eqb, ne_eqb, lt-ltb, le-ltb}
use denote.Enum.Declared.{tag_of}
use types.Run.{OneOf, miss}
use Rattle.protocol.specs.CartSets.{has}
use Rattle.protocol.specs.Floor.{is_at}
use Rattle.protocol.specs.Refusals.{check}
use Rattle.ids.specs.declared.Station.{Station}
use Rattle.carts.specs.declared.Place.{Place}
use Rattle.carts.specs.declared.Place.TheVariants.{Outside, At, Leaving, Travelling}
use Rattle.carts.specs.Records.{seen}
use Rattle.carts.specs.contracts.Place.{the_type as place_type}
use Rattle.stations.specs.View.{head_in, stations_in}
use Rattle.carts.specs.View.{carts_in}
use Rattle.messages.specs.View.{rooms_in}
use Rattle.queue.specs.Rooms.{room_in}
use Rattle.std.specs.Prelude.{None, Some}
use Rattle.std.specs.Prelude as code
use Rattle.refusals.specs.declared.Refusal.{Refusal}
use Rattle.refusals.specs.Numbers.{number_of}
use Rattle.event_radio.specs.Checks.{not_at, not_steady, not_here, not_served}

-- WHERE THE CART IS, by the place that the code met
module _ (C : List ℕ) (t c : ℕ) (p : Place) (met : seen p ≡ (carts_in C).place c) where
  pub is_here_lem : (s : Station) → p ≡ At s → s.0 ≡ t → 0 ≡ not_at C t c
  is_here_lem s q e = rw (sym met, q, eq-eqb s.0 t e) refl

  pub is_there : (s : Station) → p ≡ At s → (s.0 ≡ t → ⊥) → 16 ≡ not_at C t c
  is_there s q n = rw (sym met, q, ne_eqb s.0 t n) refl

  -- a place at no station
  nowhere : is_at (seen p) t ≡ false → 16 ≡ not_at C t c
  nowhere e = rw (sym met, e) refl

  -- "leaving counts as not at"
  pub is_leaving_lem : OneOf (2 ∷ []) (tag_of place_type p) → 16 ≡ not_at C t c
  is_leaving_lem k = nowhere (by_key p k)
    where
      by_key : (q : Place) → OneOf (2 ∷ []) (tag_of place_type q) → is_at (seen q) t ≡ false
      by_key Outside k = refl
      by_key (At s) k = absurd (miss (2 ∷ []) 1 tt k)
      by_key (Leaving s u) k = refl
      by_key (Travelling s u) k = refl

  -- outside, or travelling
  pub is_away : OneOf (0 ∷ 3 ∷ []) (tag_of place_type p) → 16 ≡ not_at C t c
  is_away k = nowhere (by_key p k)
    where
      by_key : (q : Place) → OneOf (0 ∷ 3 ∷ []) (tag_of place_type q) → is_at (seen q) t ≡ false
      by_key Outside k = refl
      by_key (At s) k = absurd (miss (0 ∷ 3 ∷ []) 1 tt k)
      by_key (Leaving s u) k = refl
      by_key (Travelling s u) k = refl

-- ITS FLAG, as the code read it
module _ (C : List ℕ) (c : ℕ) (b : Bool) (met : b ≡ (carts_in C).steady c) where
  pub is_settled : b ≡ true → 0 ≡ not_steady C c
  is_settled e = rw (sym met ∙ e) refl

  pub is_drifting : b ≡ false → 25 ≡ not_steady C c
  is_drifting e = rw (sym met ∙ e) refl

-- every refusal has a number
pub number_some : (r : Refusal) → number_of r ≡ 0 → ⊥
number_some r z = grind arith

first_stops : (r : Refusal) (b : Bool) (next : ℕ) → number_of r ≡ check 16 b 0 → number_of r ≡ check 16 b next
first_stops r true next e = e
first_stops r false next e = absurd (number_some r e)

first_passes : (b : Bool) (next : ℕ) → 0 ≡ check 16 b 0 → next ≡ check 16 b next
first_passes true next e = absurd (let z : ◌≡◌ {A = ℕ} 0 16 = e in omega arith)
first_passes false next e = refl

-- THE STATION AND THE CART
module _ (S C : List ℕ) (t c : ℕ) where
  pub no_station_lem : (head_in S).stations ≤ t → 8 ≡ not_here S C t c
  unfolding not_here
  no_station_lem l = rw (le-leb (head_in S).stations t l) refl

  pub no_cart_lem : t < (head_in S).stations → (head_in S).carts ≤ c → 9 ≡ not_here S C t c
  unfolding not_here
  no_cart_lem lt l = rw (lt-leb (head_in S).stations t lt, le-leb (head_in S).carts c l) refl

  -- of a cart that is on the floor: "25 not steady, after 16 and before 17"
  module _ (lt : t < (head_in S).stations) (lc : c < (head_in S).carts) where
    both : check 16 (not (is_at ((carts_in C).place c) t)) (not_steady C c) ≡ not_here S C t c
    unfolding not_here
    both = rw (lt-leb (head_in S).stations t lt, lt-leb (head_in S).carts c lc) refl

    pub is_elsewhere : (r : Refusal) → number_of r ≡ not_at C t c → number_of r ≡ not_here S C t c
    is_elsewhere r e = first_stops r (not (is_at ((carts_in C).place c) t)) (not_steady C c) e ∙ both

    pub steadiness : 0 ≡ not_at C t c → (r : ℕ) → r ≡ not_steady C c → r ≡ not_here S C t c
    steadiness e r q = q ∙ first_passes (not (is_at ((carts_in C).place c) t)) (not_steady C c) e ∙ both

-- THE HEAD OF THE QUEUE
module _ (S M : List ℕ) (t c buffer : ℕ) (head : code.Option ℕ) where
  pub no_head : head ≡ None → 17 ≡ not_served S M t c buffer (room_in head)
  unfolding not_served
  no_head e = rw e refl

  -- the entry that the code met, and its test of the cart
  module _ (m : ℕ) (is : head ≡ Some m) (queued : ℕ) (met : queued ≡ (stations_in S).queue m t) (b : Bool) (tested : b ≡ has queued c) where
    in_entry : has ((stations_in S).queue m t) c ≡ b
    in_entry = sym (tested ∙ ap (λ (q : ℕ). has q c) met)

    pub head_lacks_lem : not b ≡ true → 17 ≡ not_served S M t c buffer (room_in head)
    unfolding not_served
    head_lacks_lem e = rw is (rw (in_entry, e) refl)

    pub too_short : not b ≡ false → buffer < (rooms_in M).length m → 21 ≡ not_served S M t c buffer (room_in head)
    unfolding not_served
    too_short e short = rw is (rw (in_entry, e, lt-ltb buffer ((rooms_in M).length m) short) refl)

    pub is_served : not b ≡ false → (rooms_in M).length m ≤ buffer → 0 ≡ not_served S M t c buffer (room_in head)
    unfolding not_served
    is_served e fits = rw is (rw (in_entry, e, le-ltb buffer ((rooms_in M).length m) fits) refl)
