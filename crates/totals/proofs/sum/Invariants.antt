-- The loop of `totals::sum`: after so many results of the list.
use Rattle.totals.proofs.Sums.{Walked}
use Rattle.totals.proofs.sum.Given as goal

abbrev pub invariant-loop-res : goal.invariant-loop-res
invariant-loop-res l = Walked l.results l.res-index l.totals
