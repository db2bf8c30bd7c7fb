use mathlib.Core.Path.{sym, ◌∙◌}
use mathlib.Core.Bool.{not}
use mathlib.Core.List.{[]}
use native.Mathlib.Omega.{arith}
use borrow.Author.Tests.{not-true}
use Rattle.protocol.specs.Floor.{is_message}
use Rattle.protocol.specs.Claims.{is}
use Rattle.protocol.proofs.Tests.{clash}
use Rattle.protocol.proofs.Answers.{all_yes, all_no}
use Rattle.form_tables.specs.Tables.{tables}
use Rattle.form_tables.proofs.is_alone.Goals as goal

pub returns-then-is_message : goal.returns-then-is_message
returns-then-is_message c =
    let a = c.args in
    let F = tables [] [] a.messages.now in
    let k = c.loop-k.k in
    all_no a.m (λ j. is (not (is_message F a.s a.n j))) k (omega arith)
    (λ h. clash (is_message F a.s a.n k) (sym c.is_message.ensures ∙ c.if-is_message.true) (not-true _ h))

pub returns : goal.returns
returns c =
    let a = c.args in
    let F = tables [] [] a.messages.now in
    let l = c.loop-k in
    all_yes a.m (λ j. is (not (is_message F a.s a.n j))) l.k (omega arith) l.invariant.1
