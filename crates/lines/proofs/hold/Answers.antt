-- `lines::hold` meets its contract. A word of the free rows that the summary has a bit of is not 0.
use native.Mathlib.Omega.{arith}
use Rattle.lines.proofs.Bitmap.{first_word}
use Rattle.lines.proofs.Holding.{hold_is}
use Rattle.lines.proofs.hold.Goals as goal

pub returns-then-s-eq0 : goal.returns-then-s-eq0
returns-then-s-eq0 c = hold_is c.args.pool.now 0 (omega arith) (λ p. omega arith)

pub offset_bounds-pool-w : goal.offset_bounds-pool-w
offset_bounds-pool-w c = omega (arith, (first_word c.args.pool.now c.first-w.result c.requires.1 c.first-w.ensures).0)

pub bounds-pool-w : goal.bounds-pool-w
bounds-pool-w c =
    let w = c.first-w in
    omega (arith, (first_word c.args.pool.now w.result c.requires.1 w.ensures).0)

pub returns : goal.returns
returns c =
    let w = c.first-w in
    let z = first_word c.args.pool.now w.result c.requires.1 w.ensures in
    hold_is c.args.pool.now w.result z.0 (λ p. z.1)
