-- `totals::ratio` meets its contract.
use native.Mathlib.Omega.{arith}
use mathlib.Core.Path.{sym}
use Rattle.totals.proofs.Gcd.{gcd_positive}
use Rattle.totals.proofs.Ratios.{nothing_received, ratio_found}
use Rattle.totals.proofs.ratio.Goals as goal

pub returns-then-totals-eq0 : goal.returns-then-totals-eq0
returns-then-totals-eq0 c = sym (nothing_received c.args.totals (omega arith))

pub nonzero_div-result : goal.nonzero_div-result
nonzero_div-result c = let t = c.args.totals in let e = c.common_divisor-divisor.ensures in let z = gcd_positive t.passed t.received (omega arith) in omega arith

pub nonzero_div-result-2 : goal.nonzero_div-result-2
nonzero_div-result-2 c = let t = c.args.totals in let e = c.common_divisor-divisor.ensures in let z = gcd_positive t.passed t.received (omega arith) in omega arith

pub returns : goal.returns
returns c = ratio_found c.args.totals c.common_divisor-divisor.result (λ e. omega arith) c.common_divisor-divisor.ensures
