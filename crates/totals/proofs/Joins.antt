-- JOINS. What is too large stays so with more, so a join of three is refused exactly where all three together are too large.
use mathlib.Core.Path.{◌≡◌, ap, ap₂, refl, sym, ◌∙◌}
use mathlib.Core.Bool.{Bool, true, false, cond, ◌||◌}
use Prim.Native.Nat.{ℕ, ◌+◌, ◌<◌, ◌≤◌}
use native.Mathlib.Nat.{add_assoc, add_comm, add-zero}
use native.Mathlib.Omega.{arith}
use lib.Dec.{ltb}
use borrow.Author.Tests.{le-ltb, lt-ltb, ltb-false}
use borrow.Table.Steps.{cases}
use Rattle.std.specs.Prelude.{Ok, Err}
use Rattle.totals.specs.declared.Tally.{Tally}
use Rattle.totals.specs.declared.TotalsError.TheVariants.{TooLarge}
use Rattle.totals.specs.Totals.{Totalled, added, joined, joined_if_both, most_total, nothing, too_large}

same_totals : (a b c d : ℕ) → a ≡ b → c ≡ d → ◌≡◌ {A = Tally} (record { received = a; passed = c }) (record { received = b; passed = d })
same_totals a b c d p q = ap₂ (λ (x y : ℕ). record { received = x; passed = y }) p q

pub added_comm : (A B : Tally) → added A B ≡ added B A
added_comm A B = same_totals _ _ _ _ (add_comm A.received B.received) (add_comm A.passed B.passed)

pub added_assoc : (A B C : Tally) → added (added A B) C ≡ added A (added B C)
added_assoc A B C = same_totals _ _ _ _ (add_assoc A.received B.received C.received) (add_assoc A.passed B.passed C.passed)

pub added_nothing : (A : Tally) → added A nothing ≡ A
added_nothing A = same_totals _ _ _ _ (add-zero A.received) (add-zero A.passed)

-- THE TEST

pub fits : (A : Tally) → A.received ≤ most_total → A.passed ≤ most_total → too_large A ≡ false
fits A r p = rw (le-ltb most_total A.received r, le-ltb most_total A.passed p)

clash : {P : Type 0} (b : Bool) → b ≡ true → b ≡ false → P
clash b p q = absurd (let z : true ≡ false = sym p ∙ q in let y : ◌≡◌ {A = ℕ} 0 1 = cc in omega arith)

bounds : (A : Tally) → too_large A ≡ false → (A.received ≤ most_total) × (A.passed ≤ most_total)
bounds A e =
    cases (ltb most_total A.received)
    (λ r. clash (too_large A) (rw r) e)
    (λ r. let p : ltb most_total A.passed ≡ false = rw r at e in (ltb-false most_total A.received r, ltb-false most_total A.passed p))

stays_large : (A B : Tally) → too_large A ≡ true → A.received ≤ B.received → A.passed ≤ B.passed → too_large B ≡ true
stays_large A B e r p =
    cases (too_large B) (λ b. b)
    (λ b. let h = bounds B b in let x = h.0 in let y = h.1 in clash (too_large A) e (fits A (omega arith) (omega arith)))

-- THE LAWS

-- the answer where these are the totals together
abbrev unless_too_large : Tally → Totalled
unless_too_large A = cond (too_large A) (Err TooLarge) (Ok A)

-- "by their totals as counted, never by the reduced fractions"
as_counted : (A B : Tally) → joined A B ≡ unless_too_large (added A B)
unfolding joined
as_counted A B = refl

pub join_fits : (A B : Tally) → too_large (added A B) ≡ false → joined A B ≡ Ok (added A B)
join_fits A B e = as_counted A B ∙ rest
  where
    rest : unless_too_large (added A B) ≡ Ok (added A B)
    rest = rw e

pub join_too_large : (A B : Tally) → too_large (added A B) ≡ true → joined A B ≡ Err TooLarge
join_too_large A B e = as_counted A B ∙ rest
  where
    rest : unless_too_large (added A B) ≡ Err TooLarge
    rest = rw e

pub joins_commute : (A B : Tally) → joined A B ≡ joined B A
joins_commute A B = as_counted A B ∙ ap unless_too_large (added_comm A B) ∙ sym (as_counted B A)

left_first : (A B C : Tally) → joined_if_both (joined A B) (Ok C) ≡ unless_too_large (added (added A B) C)
left_first A B C =
    cases (too_large (added A B))
    (λ e. rw (join_too_large A B e, stays_large (added A B) (added (added A B) C) e (omega arith) (omega arith)))
    (λ e. rw (join_fits A B e) (as_counted (added A B) C))

right_first : (A B C : Tally) → joined_if_both (Ok A) (joined B C) ≡ unless_too_large (added A (added B C))
right_first A B C =
    cases (too_large (added B C))
    (λ e. rw (join_too_large B C e, stays_large (added B C) (added A (added B C)) e (omega arith) (omega arith)))
    (λ e. rw (join_fits B C e) (as_counted A (added B C)))

pub joins_associate : (A B C : Tally) → joined_if_both (joined A B) (Ok C) ≡ joined_if_both (Ok A) (joined B C)
joins_associate A B C = left_first A B C ∙ ap unless_too_large (added_assoc A B C) ∙ sym (right_first A B C)

pub join_with_nothing : (A : Tally) → too_large A ≡ false → joined A nothing ≡ Ok A
join_with_nothing A e = as_counted A nothing ∙ ap unless_too_large (added_nothing A) ∙ rest
  where
    rest : unless_too_large A ≡ Ok A
    rest = rw e

-- WHAT THE CODE TESTS

pub received_too_large : (A B : Tally) → most_total < A.received + B.received → Err TooLarge ≡ joined A B
received_too_large A B h = sym (join_too_large A B (rw (lt-ltb most_total (A.received + B.received) h)))

pub passed_too_large : (A B : Tally) → most_total < A.passed + B.passed → Err TooLarge ≡ joined A B
passed_too_large A B h = sym (join_too_large A B (either (ltb most_total (A.received + B.received)) (lt-ltb most_total (A.passed + B.passed) h)))
  where
    either : {p : Bool} (r : Bool) → p ≡ true → (r || p) ≡ true
    either true e = refl
    either false e = e

pub neither_too_large : (A B : Tally) → A.received + B.received ≤ most_total → A.passed + B.passed ≤ most_total → Ok (added A B) ≡ joined A B
neither_too_large A B r p = sym (join_fits A B (fits (added A B) r p))
