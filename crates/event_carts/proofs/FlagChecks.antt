-- THE CHECKS OF A FLAG, down the table, on the tables of the stations (S) and of the carts (C), whatever the other parts (M, W, T, O) are.
use mathlib.Core.Path.{◌≡◌, refl, sym}
use mathlib.Core.Bool.{Bool, false, not}
use mathlib.Core.List.{List, [], ◌∷◌}
use Prim.{tt}
use Prim.Native.Nat.{ℕ, ◌≤◌, ◌<◌}
use borrow.Author.Tests.{le-leb, lt-leb}
use denote.Enum.Declared.{tag_of}
use types.Run.{OneOf, miss}
use Rattle.protocol.specs.Floor.{Product, Floor, limits_of, entered}
use Rattle.protocol.specs.Events.{flag}
use Rattle.protocol.specs.Refusals.{check, refusal_if}
use Rattle.stations.specs.View.{head_in}
use Rattle.carts.specs.declared.Place.{Place}
use Rattle.carts.specs.declared.Place.TheVariants.{Outside, At, Leaving, Travelling}
use Rattle.carts.specs.Records.{seen}
use Rattle.carts.specs.View.{carts_in}
use Rattle.carts.specs.contracts.Place.{the_type as place_type}
use Rattle.view.specs.View.{lent, floor_in}

module _ (S C : List ℕ) (c : ℕ) (P : Product) (M W T O : List ℕ) (b : Bool) where
  abbrev F : Floor
  F = floor_in (lent P S C M W T O)

  pub flag_no_cart : (head_in S).carts ≤ c → 9 ≡ refusal_if (limits_of P) F false (flag c b)
  unfolding refusal_if
  flag_no_cart l = rw (le-leb (head_in S).carts c l) refl

  -- the place that the code met
  module _ (lc : c < (head_in S).carts) (p : Place) (met : seen p ≡ (carts_in C).place c) where
    pub flag_outside : OneOf (0 ∷ []) (tag_of place_type p) → 18 ≡ refusal_if (limits_of P) F false (flag c b)
    unfolding refusal_if
    flag_outside k = rw (lt-leb (head_in S).carts c lc, sym met) (by_key p k)
      where
        by_key : (q : Place) → OneOf (0 ∷ []) (tag_of place_type q) → 18 ≡ check 18 (not (entered (seen q))) 0
        by_key Outside k = refl
        by_key (At s) k = absurd (miss (0 ∷ []) 1 tt k)
        by_key (Leaving s u) k = absurd (miss (0 ∷ []) 2 tt k)
        by_key (Travelling s u) k = absurd (miss (0 ∷ []) 3 tt k)

    pub flag_passes : OneOf (1 ∷ 2 ∷ 3 ∷ []) (tag_of place_type p) → 0 ≡ refusal_if (limits_of P) F false (flag c b)
    unfolding refusal_if
    flag_passes k = rw (lt-leb (head_in S).carts c lc, sym met) (by_key p k)
      where
        by_key : (q : Place) → OneOf (1 ∷ 2 ∷ 3 ∷ []) (tag_of place_type q) → 0 ≡ check 18 (not (entered (seen q))) 0
        by_key Outside k = absurd (miss (1 ∷ 2 ∷ 3 ∷ []) 0 tt k)
        by_key (At s) k = refl
        by_key (Leaving s u) k = refl
        by_key (Travelling s u) k = refl
