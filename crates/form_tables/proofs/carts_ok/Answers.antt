use mathlib.Core.List.{[]}
use native.Mathlib.Omega.{arith}
use borrow.Author.Tests.{not-true, not-false}
use Rattle.protocol.specs.Floor.{limits}
use Rattle.protocol.specs.Form.{cart_rule}
use Rattle.protocol.proofs.Answers.{passed, refused, one_more, all_yes, all_no}
use Rattle.form_tables.specs.Tables.{tables}
use mathlib.Core.Bool.{not}
use mathlib.Core.Path.{ap}
use Rattle.form_tables.proofs.carts_ok.Goals as goal

pub returns-then-not-cart_ok : goal.returns-then-not-cart_ok
returns-then-not-cart_ok c =
    let f = cart_rule limits (tables c.args.stations.now c.args.carts.now []) in
    let a = c.loop-number in
    let t = c.cart_ok in
    all_no c.args.k f a.number (omega arith) (refused (f a.number) t.result t.ensures (not-true _ (ap not c.if-not-cart_ok.true)))

pub loop-number-preserved : goal.loop-number-preserved
loop-number-preserved c =
    let f = cart_rule limits (tables c.args.stations.now c.args.carts.now []) in
    let a = c.loop-number in
    let t = c.cart_ok in
    (omega arith, one_more f a.number a.invariant.1 (passed (f a.number) t.result t.ensures (not-false _ (ap not c.if-not-cart_ok.false))))

pub returns : goal.returns
returns c =
    let a = c.loop-number in
    all_yes c.args.k (cart_rule limits (tables c.args.stations.now c.args.carts.now [])) a.number (omega arith) a.invariant.1
