-- `tested_lists::send` meets its contract.
use mathlib.Core.Path.{sym, ◌∙◌}
use Rattle.lists.specs.View.{lent_lists}
use Rattle.tested_lists.proofs.Broken.{long_send, broken_send, tested_ready}
use Rattle.tested_lists.proofs.send.Goals as goal

pub returns-then-text-gt-TEXT : goal.returns-then-text-gt-TEXT
returns-then-text-gt-TEXT c =
    let a = c.args in
    long_send (lent_lists a.counts.now a.sends.now a.octets.now) a.station.0 a.set a.text.now c.if-text-gt-TEXT.true

pub returns-then-not-passes : goal.returns-then-not-passes
returns-then-not-passes c =
    let a = c.args in
    broken_send (lent_lists a.counts.now a.sends.now a.octets.now) a.station.0 a.set a.text.now c.if-text-gt-TEXT.false (sym c.passes.ensures ∙ c.if-not-passes.true)

pub send-requires : goal.send-requires
send-requires c =
    let a = c.args in
    tested_ready (lent_lists a.counts.now a.sends.now a.octets.now) (sym c.passes.ensures ∙ c.if-not-passes.false)
