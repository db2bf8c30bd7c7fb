-- `tested_lists::counts_ok` meets its contract.
use mathlib.Core.Path.{sym, ◌∙◌}
use native.Mathlib.Omega.{arith}
use borrow.Author.Tests.{eqb-true, eq-eqb}
use Rattle.protocol.proofs.ClaimLaws.{reflect}
use Rattle.lists.specs.View.{counts_in}
use Rattle.tested_lists.specs.Form.{sent_rule, counts_rule}
use Rattle.tested_lists.proofs.Pass.{fails, same_claim, wrong_size_fails, size_holds}
use Rattle.tested_lists.proofs.counts_ok.Goals as goal

pub returns-then-counts-ne-STARTED : goal.returns-then-counts-ne-STARTED
returns-then-counts-ne-STARTED c =
    let N = counts_in c.args.counts.now in
    fails (counts_rule N) (λ rule. c.if-counts-ne-STARTED.true (eqb-true N.mark 1 rule.0))

pub returns-then-wrong_size : goal.returns-then-wrong_size
returns-then-wrong_size c =
    let N = counts_in c.args.counts.now in
    fails (counts_rule N) (λ rule. wrong_size_fails N.stations N.carts (sym c.wrong_size.ensures ∙ c.if-wrong_size.true) rule.1.0)

pub returns-then-used-gt-ROWS : goal.returns-then-used-gt-ROWS
returns-then-used-gt-ROWS c =
    let N = counts_in c.args.counts.now in
    fails (counts_rule N) (λ rule. let a = rule.1.1.0 in let b = c.if-used-gt-ROWS.true in omega arith)

pub returns-then-counts-gt-MOST_ENTRIES : goal.returns-then-counts-gt-MOST_ENTRIES
returns-then-counts-gt-MOST_ENTRIES c =
    let N = counts_in c.args.counts.now in
    fails (counts_rule N) (λ rule. let a = rule.1.1.1.0 in let b = c.if-counts-gt-MOST_ENTRIES.true in omega arith)

pub sent_ok-requires : goal.sent_ok-requires
sent_ok-requires c =
    let N = counts_in c.args.counts.now in
    (c.requires, (size_holds N.stations N.carts (sym c.wrong_size.ensures ∙ c.if-wrong_size.false)).0.1)

pub returns : goal.returns
returns c =
    let N = counts_in c.args.counts.now in
    let sizes = size_holds N.stations N.carts (sym c.wrong_size.ensures ∙ c.if-wrong_size.false) in
    same_claim c.sent_ok.result (counts_rule N)
    (λ e. (eq-eqb N.mark 1 c.if-counts-ne-STARTED.false, (sizes, (c.if-used-gt-ROWS.false, (c.if-counts-gt-MOST_ENTRIES.false, (reflect (sent_rule N N.stations)).0 (sym c.sent_ok.ensures ∙ e))))))
    (λ rule. c.sent_ok.ensures ∙ (reflect (sent_rule N N.stations)).1 rule.1.1.1.1)
