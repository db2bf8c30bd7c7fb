-- PASSED OVER PER RECEIPT: "how many numbers a cart passes over for each correction it receives, over all sites".
-- `CartResult`, `Tally`, `TotalsError` and `Fraction` are the types of src/lib.rt; their numbers are natural numbers here, of any size.
use Rattle.std.specs.Prelude.{Bool, true, false, cond, ◌||◌, Option, None, Some, Result, Ok, Err, List, [], ◌∷◌, ℕ, zero, suc, ◌+◌, ◌/◌, ◌%◌, ◌≤◌, eqb, ltb, length}
use Rattle.totals.specs.declared.CartResult.{CartResult}
use Rattle.totals.specs.declared.Tally.{Tally}
use Rattle.totals.specs.declared.TotalsError.{TotalsError}
use Rattle.totals.specs.declared.TotalsError.TheVariants.{TooLong, TooLarge}
use Rattle.totals.specs.declared.Fraction.{Fraction}

-- THE REFUSALS, by their numbers
abbrev pub number_of : TotalsError → ℕ
number_of TooLong = 22
number_of TooLarge = 23

-- totals, or why there are none
abbrev pub Totalled : Type 0
Totalled = Result Tally TotalsError

-- THE SUM OF A LIST

-- what one result counts; its cart is not looked at
abbrev pub counted : CartResult → Tally
counted r = record { received = r.received; passed = r.passed }

-- "the empty result"
abbrev pub nothing : Tally
nothing = record { received = 0; passed = 0 }

-- two totals added, received to received and passed to passed
abbrev pub added : Tally → Tally → Tally
added A B = record { received = A.received + B.received; passed = A.passed + B.passed }

abbrev pub sum_of : List CartResult → Tally
sum_of [] = nothing
sum_of (r ∷ l) = added (counted r) (sum_of l)

abbrev pub most_results : ℕ
most_results = 4096

-- "22 a list longer than 4,096, before any adding"
unfoldable pub totals_of : List CartResult → Totalled
totals_of l = cond (ltb most_results (length l)) (Err TooLong) (Ok (sum_of l))

-- "each with cart, received and passed, both at most 4,294,967,295"
abbrev pub most_counted : ℕ
most_counted = 4294967295

abbrev pub InRange : List CartResult → Type 0
InRange [] = Unit {0}
InRange (r ∷ l) = ((r.received ≤ most_counted) × (r.passed ≤ most_counted)) × InRange l

-- THE RATIO

-- the greatest common divisor by remainders, in at most so many turns
unfoldable pub gcd_within : ℕ → ℕ → ℕ → ℕ
gcd_within zero a b = a
gcd_within (suc k) a b = elim (eqb b 0) [ true ↦ a | false ↦ gcd_within k b (a % b) ]

-- the second number falls at each turn, so b + 1 turns are enough
unfoldable pub gcd : ℕ → ℕ → ℕ
gcd a b = gcd_within (suc b) a b

-- "in lowest terms"
abbrev pub reduced : Tally → Tally
reduced A = record { received = A.received / gcd A.passed A.received; passed = A.passed / gcd A.passed A.received }

-- a ratio, which there is
abbrev pub over : ℕ → ℕ → Option Fraction
over p r = Some (record { passed = p; received = r })

-- "The answer is total passed over total received, in lowest terms, or "none" where nothing was received"
unfoldable pub ratio_of : Tally → Option Fraction
ratio_of A = cond (eqb A.received 0) None (over (reduced A).passed (reduced A).received)

-- JOINS: "Site results are joined by their totals as counted, never by the reduced fractions"

-- the most that 64 bits hold
abbrev pub most_total : ℕ
most_total = 18446744073709551615

abbrev pub too_large : Tally → Bool
too_large A = ltb most_total A.received || ltb most_total A.passed

-- "23 a join whose total exceeds 64 bits": either of the two
unfoldable pub joined : Tally → Tally → Totalled
joined A B = cond (too_large (added A B)) (Err TooLarge) (Ok (added A B))

-- the same of two answers: a refusal stays
abbrev pub joined_if_both : Totalled → Totalled → Totalled
joined_if_both (Err e) x = Err e
joined_if_both (Ok A) (Err e) = Err e
joined_if_both (Ok A) (Ok B) = joined A B
