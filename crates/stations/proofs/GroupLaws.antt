-- A CART LEAVES THE GROUPS, one after the other.
use mathlib.Core.Path.{◌≡◌, sym, ap, ◌∙◌}
use mathlib.Core.Bool.{Bool, cond}
use mathlib.Core.List.{List}
use Prim.Native.Nat.{ℕ, ◌+◌, ◌≤◌}
use native.Mathlib.Omega.{arith}
use lib.Dec.{ltb}
use borrow.Author.Tests.{eq-eqb, ne_eqb, le-ltb, lt-ltb}
use Rattle.protocol.specs.Folds.{update}
use Rattle.protocol.specs.CartSets.{without}
use Rattle.protocol.specs.Groups.{group_count}
use Rattle.protocol.proofs.Tests.{by_eq, by_lt}
use Rattle.protocol.proofs.SetLaws.{has_zero, without_absent}
use Rattle.rows.proofs.ColumnLaws.{column_beyond}
use Rattle.stations.specs.View.{Head, head, group_at, head_word, head_in, with_group, groups_without}

-- cart c is in none of the first g groups, and in the others as it was
abbrev pub left_to : ℕ → Head → ℕ → Head
left_to g H c = head H.mark H.stations H.carts (λ j. cond (ltb j g) (without (H.groups j) c) (H.groups j))

pub left_none : (H : Head) (c : ℕ) → H ≡ left_to 0 H c
left_none H c =
    λ i. head H.mark H.stations H.carts
    (λ j. cond (sym (le-ltb j 0 (omega arith)) i) (without (H.groups j) c) (H.groups j))

-- one more, in the way of the code: its members were x, and are y
pub left_one : (H : Head) (c g x y : ℕ) {T U : Head} → T ≡ left_to g H c → x ≡ T.groups g → y ≡ without x c → U ≡ with_group T g y → U ≡ left_to (g + 1) H c
left_one H c g x y e ex ey f =
    f ∙ ap (λ (K : Head). with_group K g y) e ∙ (λ i. head H.mark H.stations H.carts (λ j. group j i))
  where
    here : (left_to g H c).groups g ≡ H.groups g
    here = rw (le-ltb g g (omega arith))

    left : y ≡ without (H.groups g) c
    left = ey ∙ ap (λ (z : ℕ). without z c) (ex ∙ ap (λ (K : Head). K.groups g) e ∙ here)

    same_side : (j : ℕ) → (j ≡ g → ⊥) → ltb j g ≡ ltb j (g + 1)
    same_side j d =
        by_lt j g (λ l. lt-ltb j g l ∙ sym (lt-ltb j (g + 1) (omega arith))) (λ l. le-ltb j g l ∙ sym (le-ltb j (g + 1) (omega arith)))

    group : (j : ℕ) → update (left_to g H c).groups g y j ≡ (left_to (g + 1) H c).groups j
    group j =
        by_eq j g
        (λ z. rw (eq-eqb j g z, lt-ltb j (g + 1) (omega arith)) (left ∙ ap (λ (k : ℕ). without (H.groups k) c) (sym z)))
        (λ z. rw (ne_eqb j g z) (ap (λ (b : Bool). cond b (without (H.groups j) c) (H.groups j)) (same_side j z)))

-- there are no members beyond sixteen groups
none_beyond : (l : List ℕ) (j : ℕ) → group_count ≤ j → (head_in l).groups j ≡ 0
unfolding head_in
none_beyond l j h = column_beyond group_count group_at (λ r. head_word l) 0 j h

pub left_all : (l : List ℕ) (c g : ℕ) → group_count ≤ g → left_to g (head_in l) c ≡ groups_without (head_in l) c
left_all l c g h = λ i. head (head_in l).mark (head_in l).stations (head_in l).carts (λ j. group j i)
  where
    empty : (j : ℕ) → group_count ≤ j → (head_in l).groups j ≡ without ((head_in l).groups j) c
    empty j k = rw (none_beyond l j k) (sym (without_absent 0 c (has_zero c)))

    group : (j : ℕ) → cond (ltb j g) (without ((head_in l).groups j) c) ((head_in l).groups j) ≡ without ((head_in l).groups j) c
    group j = by_lt j g (λ k. rw (lt-ltb j g k)) (λ k. rw (le-ltb j g k) (empty j (omega arith)))
