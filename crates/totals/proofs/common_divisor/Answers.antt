use mathlib.Core.Path.{◌≡◌, ap, sym, ◌∙◌}
use Prim.Native.Nat.{ℕ, ◌<◌}
use native.Mathlib.Omega.{arith}
use Rattle.totals.specs.Totals.{gcd}
use Rattle.totals.proofs.Gcd.{gcd_end, gcd_turn}
use Rattle.totals.proofs.common_divisor.Goals as goal

pub loop-y-preserved : goal.loop-y-preserved
loop-y-preserved c =
    let x = c.loop-y.x in
    let y = c.loop-y.y in
    let some : 0 < y = omega arith in
    sym (gcd_turn x y (λ e. omega arith)) ∙ c.loop-y.invariant

pub returns : goal.returns
returns c =
    let x = c.loop-y.x in
    let y = c.loop-y.y in
    let ended : y ≡ 0 = omega arith in
    sym (gcd_end x) ∙ ap (λ (n : ℕ). gcd x n) (sym ended) ∙ c.loop-y.invariant
