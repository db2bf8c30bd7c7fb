-- THE CHECKS OF A MOVE, down the table, on the tables of the stations (S) and of the carts (C), whatever the other parts (M, W, T, O) are.
use mathlib.Core.Path.{◌≡◌, refl, sym}
use mathlib.Core.Bool.{false, not}
use mathlib.Core.List.{List, [], ◌∷◌}
use Prim.{tt}
use Prim.Native.Nat.{ℕ, ◌≤◌, ◌<◌}
use borrow.Author.Tests.{le-leb, lt-leb, eq-eqb, ne_eqb}
use denote.Enum.Declared.{tag_of}
use types.Run.{OneOf, miss}
use Rattle.protocol.specs.Floor.{Product, Floor, limits_of, entered, moving, is_at}
use Rattle.protocol.specs.Events.{move}
use Rattle.protocol.specs.Refusals.{check, refusal_if}
use Rattle.ids.specs.declared.Station.{Station}
use Rattle.carts.specs.declared.Place.{Place}
use Rattle.carts.specs.declared.Place.TheVariants.{Outside, At, Leaving, Travelling}
use Rattle.carts.specs.Records.{seen}
use Rattle.carts.specs.contracts.Place.{the_type as place_type}
use Rattle.stations.specs.View.{head_in}
use Rattle.carts.specs.View.{carts_in}
use Rattle.view.specs.View.{lent, floor_in}

module _ (S C : List ℕ) (c to : ℕ) (P : Product) (M W T O : List ℕ) where
  abbrev F : Floor
  F = floor_in (lent P S C M W T O)

  pub move_no_station : (head_in S).stations ≤ to → 8 ≡ refusal_if (limits_of P) F false (move c to)
  unfolding refusal_if
  move_no_station l = rw (le-leb (head_in S).stations to l) refl

  pub move_no_cart : to < (head_in S).stations → (head_in S).carts ≤ c → 9 ≡ refusal_if (limits_of P) F false (move c to)
  unfolding refusal_if
  move_no_cart lt l = rw (lt-leb (head_in S).stations to lt, le-leb (head_in S).carts c l) refl

  module _ (lt : to < (head_in S).stations) (lc : c < (head_in S).carts) where
    -- the place that the code met
    module _ (p : Place) (met : seen p ≡ (carts_in C).place c) where
      pub move_outside : OneOf (0 ∷ []) (tag_of place_type p) → 18 ≡ refusal_if (limits_of P) F false (move c to)
      unfolding refusal_if
      move_outside k = rw (lt-leb (head_in S).stations to lt, lt-leb (head_in S).carts c lc, sym met) (by_key p k)
        where
          by_key : (q : Place) → OneOf (0 ∷ []) (tag_of place_type q)
              → 18 ≡ check 18 (not (entered (seen q))) (check 19 (moving (seen q)) (check 20 (is_at (seen q) to) 0))
          by_key Outside k = refl
          by_key (At s) k = absurd (miss (0 ∷ []) 1 tt k)
          by_key (Leaving s t) k = absurd (miss (0 ∷ []) 2 tt k)
          by_key (Travelling s t) k = absurd (miss (0 ∷ []) 3 tt k)

      pub move_leaving : OneOf (2 ∷ []) (tag_of place_type p) → 19 ≡ refusal_if (limits_of P) F false (move c to)
      unfolding refusal_if
      move_leaving k = rw (lt-leb (head_in S).stations to lt, lt-leb (head_in S).carts c lc, sym met) (by_key p k)
        where
          by_key : (q : Place) → OneOf (2 ∷ []) (tag_of place_type q)
              → 19 ≡ check 18 (not (entered (seen q))) (check 19 (moving (seen q)) (check 20 (is_at (seen q) to) 0))
          by_key Outside k = absurd (miss (2 ∷ []) 0 tt k)
          by_key (At s) k = absurd (miss (2 ∷ []) 1 tt k)
          by_key (Leaving s t) k = refl
          by_key (Travelling s t) k = absurd (miss (2 ∷ []) 3 tt k)

      pub move_travelling : OneOf (3 ∷ []) (tag_of place_type p) → 19 ≡ refusal_if (limits_of P) F false (move c to)
      unfolding refusal_if
      move_travelling k = rw (lt-leb (head_in S).stations to lt, lt-leb (head_in S).carts c lc, sym met) (by_key p k)
        where
          by_key : (q : Place) → OneOf (3 ∷ []) (tag_of place_type q)
              → 19 ≡ check 18 (not (entered (seen q))) (check 19 (moving (seen q)) (check 20 (is_at (seen q) to) 0))
          by_key Outside k = absurd (miss (3 ∷ []) 0 tt k)
          by_key (At s) k = absurd (miss (3 ∷ []) 1 tt k)
          by_key (Leaving s t) k = absurd (miss (3 ∷ []) 2 tt k)
          by_key (Travelling s t) k = refl

      pub move_there : (s : Station) → p ≡ At s → s.0 ≡ to → 20 ≡ refusal_if (limits_of P) F false (move c to)
      unfolding refusal_if
      move_there s q e = rw (lt-leb (head_in S).stations to lt, lt-leb (head_in S).carts c lc, sym met, q, eq-eqb s.0 to e) refl

      pub move_passes : (s : Station) → p ≡ At s → (s.0 ≡ to → ⊥) → 0 ≡ refusal_if (limits_of P) F false (move c to)
      unfolding refusal_if
      move_passes s q n = rw (lt-leb (head_in S).stations to lt, lt-leb (head_in S).carts c lc, sym met, q, ne_eqb s.0 to n) refl
