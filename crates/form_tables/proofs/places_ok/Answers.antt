use mathlib.Core.Path.{◌∙◌}
use native.Mathlib.Omega.{arith}
use borrow.Author.Tests.{not-true}
use Rattle.protocol.specs.Claims.{is}
use Rattle.protocol.proofs.Tests.{clash}
use Rattle.carts.specs.View.{canonical_in}
use Rattle.protocol.proofs.Answers.{all_yes, all_no}
use mathlib.Core.Bool.{not}
use mathlib.Core.Path.{ap}
use Rattle.form_tables.proofs.places_ok.Goals as goal

pub returns-then-not-is_canonical : goal.returns-then-not-is_canonical
returns-then-not-is_canonical c =
    let a = c.loop-number in
    let t = c.is_canonical in
    all_no c.args.k (λ k. is (canonical_in c.args.carts.now k)) a.number (omega arith) (λ h. clash t.result (t.ensures ∙ h) (not-true _ (ap not c.if-not-is_canonical.true)))

pub returns : goal.returns
returns c =
    let a = c.loop-number in
    all_yes c.args.k (λ k. is (canonical_in c.args.carts.now k)) a.number (omega arith) a.invariant.1
