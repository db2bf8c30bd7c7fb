-- THE CHECKS OF THE CARTS THAT AN EVENT NAMES, down the table, on the tables of the stations (S) and of the carts (C), whatever the other parts (M, W,
-- T, O) are.
use mathlib.Core.Path.{◌≡◌, refl, sym, ap, ◌∙◌}
use mathlib.Core.Bool.{Bool, true, false, not}
use mathlib.Core.List.{List}
use Prim.Native.Nat.{ℕ, ◌^◌, ◌≤◌, ◌<◌}
use borrow.Author.Tests.{le-leb, lt-leb, eq-eqb, ne_eqb}
use Rattle.protocol.specs.Floor.{Product, Floor}
use Rattle.protocol.specs.CartSets.{set_of}
use Rattle.protocol.specs.Claims.{test}
use Rattle.protocol.specs.Refusals.{check, strangers, not_entered}
use Rattle.protocol.proofs.SetLaws.{zero_below}
use Rattle.stations.specs.View.{head_in}
use Rattle.carts.specs.View.{carts_in}
use Rattle.view.specs.View.{lent, floor_in}
use Rattle.form_groups.proofs.Entered.{all_entered, entered_wider, within_all, beyond_all}
use Rattle.event_send.specs.Checks.{named_checks, set_checks}

module _ (S C : List ℕ) (set most : ℕ) (P : Product) (M W T O : List ℕ) (e : most ≡ set_of (head_in S).carts (λ c. true)) where
  abbrev F : Floor
  F = floor_in (lent P S C M W T O)

  pub named_stranger : most < set → 9 ≡ named_checks F set
  named_stranger l = rw (le-leb (2 ^ (head_in S).carts) set (beyond_all (head_in S).carts set most e l)) refl

  -- what the walk over all sixty-four found
  module _ (l : set ≤ most) (few : (head_in S).carts ≤ 64) (r : Bool) (found : r ≡ test (all_entered (carts_in C).place 64 set)) where
    inside : set < 2 ^ (head_in S).carts
    inside = within_all (head_in S).carts set most e l

    outside : not_entered F set ≡ not r
    unfolding not_entered test
    outside = ap not (sym (found ∙ entered_wider (carts_in C).place (head_in S).carts set few inside))

    pub named_outside : r ≡ false → 12 ≡ named_checks F set
    named_outside q = rw (lt-leb (2 ^ (head_in S).carts) set inside, outside, q) refl

    pub named_passes : r ≡ true → 0 ≡ named_checks F set
    named_passes q = rw (lt-leb (2 ^ (head_in S).carts) set inside, outside, q) refl

-- A SEND'S SET: an empty one has no cart off the floor, and of another one the test between the two is passed
module _ (F : Floor) (set : ℕ) where
  pub set_empty : set ≡ 0 → 11 ≡ set_checks F set
  set_empty z = rw (lt-leb (2 ^ F.carts) set (rw z (zero_below F.carts)), eq-eqb set 0 z) refl

  pub set_named : (set ≡ 0 → ⊥) → (r : ℕ) → r ≡ named_checks F set → r ≡ set_checks F set
  set_named n r e = e ∙ ap (λ (b : Bool). check 9 (strangers F set) (check 11 b (check 12 (not_entered F set) 0))) (sym (ne_eqb set 0 n))
