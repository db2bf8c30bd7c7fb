-- WHAT IS PROVED of the written totals. Each statement uses names of specs/ and of the library alone.
use mathlib.Core.Path.{◌≡◌, ◌∙◌}
use mathlib.Core.Bool.{true, false}
use mathlib.Core.List.{List, ◌++◌}
use mathlib.Core.Logic.{◌↔◌}
use Prim.Native.Nat.{ℕ, ◌*◌, ◌<◌, ◌≤◌, ◌∣◌}
use lib.ListN.{length}
use Rattle.std.specs.Prelude.{None, Ok, Err}
use Rattle.totals.specs.declared.CartResult.{CartResult}
use Rattle.totals.specs.declared.Tally.{Tally}
use Rattle.totals.specs.declared.TotalsError.TheVariants.{TooLong, TooLarge}
use Rattle.totals.specs.Totals.{InRange, added, joined, joined_if_both, most_results, nothing, over, ratio_of, sum_of, too_large, totals_of}
use Rattle.totals.proofs.Joins.{join_fits, join_too_large, join_with_nothing, joins_associate, joins_commute}
use Rattle.totals.proofs.Sums.{answers_join, lists_join, long_list, short_list, sum_fits}
use Rattle.totals.proofs.Ratios.{coprime, fraction_of, none_received, nothing_received, over_some, same_ratio}

-- "22 a list longer than 4,096", and no other
pub summed_or_22 : (l : List CartResult) → (length l ≤ most_results → totals_of l ≡ Ok (sum_of l)) × (most_results < length l → totals_of l ≡ Err TooLong)
summed_or_22 l = (short_list l, long_list l)

-- "Site results are joined by their totals as counted, never by the reduced fractions. [..] 23 a join whose total exceeds 64 bits", and no other
pub joined_as_counted : (A B : Tally) → (too_large (added A B) ≡ false → joined A B ≡ Ok (added A B)) × (too_large (added A B) ≡ true → joined A B ≡ Err TooLarge)
joined_as_counted A B = (join_fits A B, join_too_large A B)

-- "Joining must not care about order"
pub order_is_nothing : (A B : Tally) → joined A B ≡ joined B A
order_is_nothing A B = joins_commute A B

-- "or grouping wherever no join on either way is refused". More: it is refused on both ways or on neither, with the same number
pub grouping_is_nothing : (A B C : Tally) → joined_if_both (joined A B) (Ok C) ≡ joined_if_both (Ok A) (joined B C)
grouping_is_nothing A B C = joins_associate A B C

-- "and the empty result changes nothing"; totals of more than 64 bits are none that could be joined
pub empty_changes_nothing : (A : Tally) → too_large A ≡ false → (joined A nothing ≡ Ok A) × (joined nothing A ≡ Ok A)
empty_changes_nothing A e = (join_with_nothing A e, joins_commute nothing A ∙ join_with_nothing A e)

-- THE SUM OVER TWO LISTS, one behind the other, is the join of their sums, and no such join is refused
pub sum_of_both : (l k : List CartResult) → InRange l → InRange k → length l ≤ most_results → length k ≤ most_results → joined (sum_of l) (sum_of k) ≡ Ok (sum_of (l ++ k))
sum_of_both l k hl hk nl nk = lists_join l k hl hk nl nk

-- so their answers are joined too, where both together are not too long
pub answer_of_both : (l k : List CartResult) → InRange l → InRange k → length (l ++ k) ≤ most_results → totals_of (l ++ k) ≡ joined_if_both (totals_of l) (totals_of k)
answer_of_both l k hl hk n = answers_join l k hl hk n

-- a list that is not refused has totals of at most 64 bits: 23 arises in joins alone
pub sum_within : (l : List CartResult) → InRange l → length l ≤ most_results → too_large (sum_of l) ≡ false
sum_within l h n = sum_fits l h n

-- THE RATIO: "or "none" where nothing was received", and only there
pub none_exactly : (A : Tally) → (ratio_of A ≡ None) ↔ (A.received ≡ 0)
none_exactly A = (none_received A, nothing_received A)

-- "total passed over total received": the fraction is the totals' fraction
pub fraction_of_totals : (A : Tally) (p r : ℕ) → ratio_of A ≡ over p r → (p * A.received ≡ A.passed * r) × (0 < r)
fraction_of_totals A p r e = let f = fraction_of A p r e in (same_ratio A p r f, over_some A p r f)

-- "in lowest terms": nothing above 1 divides both
pub lowest_terms : (A : Tally) (p r : ℕ) → ratio_of A ≡ over p r → (d : ℕ) → d ∣ p → d ∣ r → d ≡ 1
lowest_terms A p r e d x y = coprime A p r d (fraction_of A p r e) x y
