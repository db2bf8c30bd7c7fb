-- `totals::sum` meets its contract: a turn counts one result, and where the walk ends the answer is the written one.
use mathlib.Core.Path.{◌≡◌}
use Prim.Native.Nat.{◌+◌, ◌≤◌}
use lib.ListN.{length}
use native.Mathlib.Omega.{arith}
use Rattle.std.specs.Prelude.{Ok, Err}
use Rattle.totals.specs.declared.TotalsError.TheVariants.{TooLong}
use Rattle.totals.specs.Totals.{most_results, nothing}
use Rattle.totals.proofs.Sums.{if_long, if_short, walk_begins, walk_goes_on, walk_ends}
use Rattle.totals.proofs.sum.Goals as goal

pub returns-then-results-gt-MOST_RESULTS : goal.returns-then-results-gt-MOST_RESULTS
returns-then-results-gt-MOST_RESULTS c =
    let l = c.args.results.now in
    let long = c.if-results-gt-MOST_RESULTS.true in
    walk_ends l 0 nothing (Err TooLong) (if_long (length l) 0 (length l) long) (walk_begins l) (if_long (length l) (Err TooLong) (Ok nothing) long)

pub loop-res-preserved : goal.loop-res-preserved
loop-res-preserved c =
    walk_goes_on c.args.results.now c.loop-res.res-index c.loop-res.totals _ (record { cart = 0; received = 0; passed = 0 }) c.loop-res.invariant (omega arith) (omega arith) (omega arith)
    (λ i. record { received = c.loop-res.totals.received + c.from.ensures i; passed = c.loop-res.totals.passed + c.from-in-loop-res.ensures i })

pub returns : goal.returns
returns c =
    let l = c.args.results.now in
    let totals = c.loop-res.totals in
    let end : c.loop-res.res-index ≡ length l = omega arith in
    let short : length l ≤ most_results = omega arith in
    walk_ends l (length l) totals (Ok totals) (if_short (length l) 0 (length l) short) (rw end at c.loop-res.invariant) (if_short (length l) (Err TooLong) (Ok totals) short)
