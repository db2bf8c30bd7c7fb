-- THE CHECKS OF A GROUP, down the table: of the carts that it names, then of its number.
use mathlib.Core.Path.{◌≡◌, refl, ap, ◌∙◌}
use native.Mathlib.Omega.{arith}
use Rattle.std.specs.Prelude.{Result, Ok, Err}
use Rattle.std.specs.Result.{result_and}
use mathlib.Core.Bool.{Bool, true, false}
use Prim.Native.Nat.{ℕ, ◌≤◌, ◌<◌}
use borrow.Author.Tests.{le-leb, lt-leb}
use Rattle.protocol.specs.Floor.{Product, limits_of, Floor}
use Rattle.protocol.specs.Groups.{group_count}
use Rattle.protocol.specs.Events.{group}
use Rattle.protocol.specs.Refusals.{check, strangers, not_entered, no_group, refusal_if}
use Rattle.refusals.specs.declared.Refusal.{Refusal}
use Rattle.refusals.specs.Numbers.{number_of, refusal_in}
use Rattle.event_send.specs.Checks.{named_checks}

-- the number
pub number_beyond : (g : ℕ) → group_count ≤ g → 26 ≡ check 26 (no_group g) 0
number_beyond g l = rw (le-leb group_count g l) refl

pub number_passes : (g : ℕ) → g < group_count → 0 ≡ check 26 (no_group g) 0
number_passes g l = rw (lt-leb group_count g l) refl

-- in turn
none_stops : (a b : Bool) (next : ℕ) → 0 ≡ check 9 a (check 12 b 0) → next ≡ check 9 a (check 12 b next)
none_stops true b next e = absurd (omega arith)
none_stops false true next e = absurd (omega arith)
none_stops false false next e = refl

one_stops : (a b : Bool) (r next : ℕ) → (r ≡ 0 → ⊥) → r ≡ check 9 a (check 12 b 0) → r ≡ check 9 a (check 12 b next)
one_stops true b r next some e = e
one_stops false true r next some e = e
one_stops false false r next some e = absurd (some e)

-- every refusal has a number
number_some : (x : Refusal) → number_of x ≡ 0 → ⊥
number_some x z = grind arith

in_turn : {A B : Type 0} (P : Product) (F : Floor) (g set : ℕ) (x : Result A Refusal) (y : Result B Refusal)
    → refusal_in x ≡ named_checks F set → refusal_in y ≡ check 26 (no_group g) 0 → refusal_in (result_and x y) ≡ refusal_if (limits_of P) F false (group g set)
unfolding refusal_if
in_turn P F g set (Ok u) y p q = q ∙ none_stops (strangers F set) (not_entered F set) _ p
in_turn P F g set (Err e) y p q = one_stops (strangers F set) (not_entered F set) (number_of e) _ (number_some e) p

pub group_checks : {A B : Type 0} (P : Product) (F : Floor) (g set : ℕ) (x : Result A Refusal) (y r : Result B Refusal)
    → refusal_in x ≡ named_checks F set → refusal_in y ≡ check 26 (no_group g) 0 → r ≡ result_and x y → refusal_in r ≡ refusal_if (limits_of P) F false (group g set)
group_checks P F g set x y r p q e = ap refusal_in e ∙ in_turn P F g set x y p q
