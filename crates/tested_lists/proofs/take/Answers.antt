-- `tested_lists::take` meets its contract.
use mathlib.Core.Path.{sym, ◌∙◌}
use Rattle.lists.specs.View.{lent_lists}
use Rattle.tested_lists.proofs.Broken.{broken_take, tested_ready}
use Rattle.tested_lists.proofs.take.Goals as goal

pub returns-then-not-passes : goal.returns-then-not-passes
returns-then-not-passes c =
    let a = c.args in
    broken_take (lent_lists a.counts.now a.sends.now a.octets.now) a.station.0 a.cart.0 a.buffer.now (sym c.passes.ensures ∙ c.if-not-passes.true)

pub take-requires : goal.take-requires
take-requires c =
    let a = c.args in
    tested_ready (lent_lists a.counts.now a.sends.now a.octets.now) (sym c.passes.ensures ∙ c.if-not-passes.false)
