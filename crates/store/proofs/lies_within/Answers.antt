-- `store::lies_within` meets its contract.
use native.Mathlib.Omega.{arith}
use Rattle.protocol.specs.Claims.{test}
use Rattle.protocol.proofs.Answers.{no}
use Rattle.messages.specs.View.{rooms_in}
use Rattle.store.specs.Layout.{within}
use Rattle.store.proofs.Looks.{within_by}
use Rattle.store.proofs.lies_within.Goals as goal

pub returns-then-n-gt-LONG : goal.returns-then-n-gt-LONG
returns-then-n-gt-LONG c =
    let a = c.args in
    no (within (rooms_in a.messages.now) a.m) (λ h. omega (arith, h.0, c.length_of-n.ensures))

pub returns : goal.returns
unfolding test
returns c = within_by _ _ _ _ c.length_of-n.ensures c.offset_of.ensures c.if-n-gt-LONG.false
