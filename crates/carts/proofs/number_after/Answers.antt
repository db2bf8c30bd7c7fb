-- `carts::number_after` meets its contract.
use borrow.Author.Tests.{lt-ltb, le-ltb}
use native.Mathlib.Omega.{arith}
use Rattle.protocol.proofs.Tests.{by_lt}
use Rattle.carts.proofs.number_after.Goals as goal

pub returns : goal.returns
returns c =
    let n = c.args.n.0 in
    by_lt n 18446744073709551615
    (λ l. rw (lt-ltb n 18446744073709551615 l) (omega (arith, c.saturating_add.ensures)))
    (λ l. rw (le-ltb n 18446744073709551615 l) (omega (arith, c.saturating_add.ensures)))
