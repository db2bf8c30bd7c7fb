-- THE CHECKS OF A RETIREMENT, down the table, on the tables of the stations (S), of the carts (C) and of the messages (M), whatever the other parts
-- (W, T, O) are.
use mathlib.Core.Path.{◌≡◌, refl, sym, ap, ◌∙◌}
use mathlib.Core.Bool.{Bool, true, false, not}
use mathlib.Core.List.{List, [], ◌∷◌}
use Prim.{tt}
use Prim.Native.Nat.{ℕ, ◌≤◌, ◌<◌}
use lib.Dec.{eqb}
use borrow.Author.Tests.{eq-eqb, ne_eqb, le-leb, lt-leb, not-true}
use denote.Enum.Declared.{tag_of}
use types.Run.{OneOf, miss}
use Rattle.protocol.specs.CartSets.{has}
use Rattle.protocol.specs.Floor.{Limits, Product, Floor, limits_of, entered, moving}
use Rattle.protocol.specs.Events.{retire}
use Rattle.protocol.specs.Refusals.{refusal_if}
use Rattle.protocol.proofs.Tests.{by_test, clash}
use Rattle.protocol.proofs.SetLaws.{has_zero}
use Rattle.protocol.proofs.Readings.{no_such_cart_is_9, outside_is_18, moving_is_19, named_is_29, unnamed_is_none}
use Rattle.stations.specs.View.{head_in}
use Rattle.carts.specs.declared.Place.{Place}
use Rattle.carts.specs.declared.Place.TheVariants.{Outside, At, Leaving, Travelling}
use Rattle.carts.specs.Records.{seen}
use Rattle.carts.specs.View.{carts_in}
use Rattle.carts.specs.contracts.Place.{the_type as place_type}
use Rattle.messages.specs.View.{Rooms, rooms_in}
use Rattle.form_tables.specs.Parts.{Collects}
use Rattle.view.specs.View.{lent, floor_in}
use Rattle.event_carts.specs.Named.{named_if_held}

-- THE PLACE that the code met, by its arm
is_outside : (p : Place) → OneOf (0 ∷ []) (tag_of place_type p) → entered (seen p) ≡ false
is_outside Outside k = refl
is_outside (At s) k = absurd (miss (0 ∷ []) 1 tt k)
is_outside (Leaving s t) k = absurd (miss (0 ∷ []) 2 tt k)
is_outside (Travelling s t) k = absurd (miss (0 ∷ []) 3 tt k)

is_here_lem : (p : Place) → OneOf (1 ∷ []) (tag_of place_type p) → (entered (seen p) ≡ true) × (moving (seen p) ≡ false)
is_here_lem Outside k = absurd (miss (1 ∷ []) 0 tt k)
is_here_lem (At s) k = (refl, refl)
is_here_lem (Leaving s t) k = absurd (miss (1 ∷ []) 2 tt k)
is_here_lem (Travelling s t) k = absurd (miss (1 ∷ []) 3 tt k)

is_away : (p : Place) → OneOf (2 ∷ 3 ∷ []) (tag_of place_type p) → (entered (seen p) ≡ true) × (moving (seen p) ≡ true)
is_away Outside k = absurd (miss (2 ∷ 3 ∷ []) 0 tt k)
is_away (At s) k = absurd (miss (2 ∷ 3 ∷ []) 1 tt k)
is_away (Leaving s t) k = (refl, refl)
is_away (Travelling s t) k = (refl, refl)

-- ONE ROOM: what the code reads of it
module _ (R : Rooms) (m w : ℕ) (read : w ≡ R.waiting m) where
  pub free_names_none : w ≡ 0 → 0 ≡ named_if_held R m
  free_names_none z = rw (eq-eqb (R.waiting m) 0 (sym read ∙ z)) refl

  pub held_names_its : (w ≡ 0 → ⊥) → (x : ℕ) → x ≡ R.named m → x ≡ named_if_held R m
  held_names_its n x e = rw (ne_eqb (R.waiting m) 0 (λ z. n (read ∙ z))) e

-- a cart among those that count is named there, and the message is held
held_there : (R : Rooms) (m c : ℕ) → has (named_if_held R m) c ≡ true → (not (eqb (R.waiting m) 0) ≡ true) × (has (R.named m) c ≡ true)
held_there R m c =
    by_test (eqb (R.waiting m) 0)
    (λ e. rw e (λ q. clash (has 0 c) q (has_zero c)))
    (λ e. rw e (λ q. (refl, q)))

counts_there : (R : Rooms) (m c : ℕ) → not (eqb (R.waiting m) 0) ≡ true → has (R.named m) c ≡ true → has (named_if_held R m) c ≡ true
counts_there R m c h q = rw (not-true (eqb (R.waiting m) 0) h) q

module _ (S C M : List ℕ) (c : ℕ) (P : Product) (W T O : List ℕ) where
  abbrev N : Limits
  N = limits_of P

  abbrev F : Floor
  F = floor_in (lent P S C M W T O)

  pub retire_no_cart : (head_in S).carts ≤ c → 9 ≡ refusal_if N F false (retire c)
  retire_no_cart l = sym (no_such_cart_is_9 N F c (le-leb (head_in S).carts c l))

  module _ (lc : c < (head_in S).carts) (p : Place) (met : seen p ≡ (carts_in C).place c) where
    pub retire_outside : OneOf (0 ∷ []) (tag_of place_type p) → 18 ≡ refusal_if N F false (retire c)
    retire_outside k = sym (outside_is_18 N F c (lt-leb (head_in S).carts c lc) (ap entered (sym met) ∙ is_outside p k))

    pub retire_away : OneOf (2 ∷ 3 ∷ []) (tag_of place_type p) → 19 ≡ refusal_if N F false (retire c)
    retire_away k =
        let away = is_away p k in
        sym (moving_is_19 N F c (lt-leb (head_in S).carts c lc) (ap entered (sym met) ∙ away.0) (ap moving (sym met) ∙ away.1))

    -- at a station: x has the carts that the messages held in all rooms name
    module _ (key : OneOf (1 ∷ []) (tag_of place_type p)) (n x : ℕ) (names : Collects (named_if_held (rooms_in M)) n x) (all : n ≡ P.held)
        (b : Bool) (told : b ≡ has x c) where
      is_in_lem : entered (F.place c) ≡ true
      is_in_lem = ap entered (sym met) ∙ (is_here_lem p key).0

      stays : moving (F.place c) ≡ false
      stays = ap moving (sym met) ∙ (is_here_lem p key).1

      pub retire_named : b ≡ true → 29 ≡ refusal_if N F false (retire c)
      retire_named taken =
          let w = names.of c (sym told ∙ taken) in
          let q = held_there (rooms_in M) w.0 c w.2 in
          let l : w.0 < P.held = rw all at w.1 in
          sym (named_is_29 N F c w.0 (lt-leb (head_in S).carts c lc) is_in_lem stays l q.0 q.1)

      pub retire_passes : b ≡ false → 0 ≡ refusal_if N F false (retire c)
      retire_passes left =
          sym (unnamed_is_none N F c (lt-leb (head_in S).carts c lc) is_in_lem stays
          (λ m l h. by_test (has (F.named m) c)
          (λ q. clash (has x c) (names.had m c (rw (sym all) at l) (counts_there (rooms_in M) m c h q)) (sym told ∙ left))
          (λ q. q)))
