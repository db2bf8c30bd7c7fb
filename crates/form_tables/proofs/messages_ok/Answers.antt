use mathlib.Core.Path.{◌∙◌}
use mathlib.Core.List.{[]}
use native.Mathlib.Omega.{arith}
use borrow.Author.Tests.{not-true, not-false}
use Rattle.form_tables.proofs.Names.{names_alone}
use Rattle.protocol.proofs.Answers.{passed, refused, one_more, all_yes, all_no}
use Rattle.form_tables.specs.Tables.{tables}
use Rattle.form_tables.specs.Parts.{held_before}
use mathlib.Core.Bool.{not}
use mathlib.Core.Path.{ap}
use Rattle.form_tables.proofs.messages_ok.Goals as goal

pub returns-then-not-held_ok : goal.returns-then-not-held_ok
returns-then-not-held_ok c =
    let F = tables c.args.stations.now [] c.args.messages.now in
    let a = c.loop-m in
    let t = c.held_ok in
    all_no c.args.held (held_before F) a.m (omega arith) (refused (held_before F a.m) t.result t.ensures (not-true _ (ap not c.if-not-held_ok.true))) ∙ names_alone c.args.held F

pub loop-m-preserved : goal.loop-m-preserved
loop-m-preserved c =
    let F = tables c.args.stations.now [] c.args.messages.now in
    let a = c.loop-m in
    let t = c.held_ok in
    (omega arith, one_more (held_before F) a.m a.invariant.1 (passed (held_before F a.m) t.result t.ensures (not-false _ (ap not c.if-not-held_ok.false))))

pub returns : goal.returns
returns c =
    let F = tables c.args.stations.now [] c.args.messages.now in
    let a = c.loop-m in
    all_yes c.args.held (held_before F) a.m (omega arith) a.invariant.1 ∙ names_alone c.args.held F
