use mathlib.Core.Path.{ap}
use Prim.Native.Nat.{ℕ}
use native.Mathlib.Omega.{arith}
use borrow.Author.Tests.{not-true, not-false}
use Rattle.protocol.specs.Floor.{limits}
use Rattle.protocol.specs.Claims.{Claim, all}
use Rattle.protocol.specs.Form.{entry_rule}
use Rattle.protocol.proofs.Answers.{passed, refused, one_more, all_yes, all_no}
use Rattle.form_tables.specs.Tables.{tables}
use mathlib.Core.Bool.{not}
use Rattle.form_tables.proofs.entries_ok.Goals as goal

pub returns-then-not-entries_of : goal.returns-then-not-entries_of
returns-then-not-entries_of c =
    let s = c.args in
    let f : ℕ → Claim = λ k. all s.rows (entry_rule limits (tables s.stations.now s.carts.now s.messages.now) k) in
    let a = c.loop-m in
    let t = c.entries_of in
    all_no s.held f a.m (omega arith) (refused (f a.m) t.result t.ensures (not-true _ (ap not c.if-not-entries_of.true)))

pub loop-m-preserved : goal.loop-m-preserved
loop-m-preserved c =
    let s = c.args in
    let f : ℕ → Claim = λ k. all s.rows (entry_rule limits (tables s.stations.now s.carts.now s.messages.now) k) in
    let a = c.loop-m in
    let t = c.entries_of in
    (omega arith, one_more f a.m a.invariant.1 (passed (f a.m) t.result t.ensures (not-false _ (ap not c.if-not-entries_of.false))))

pub returns : goal.returns
returns c =
    let s = c.args in
    let f : ℕ → Claim = λ k. all s.rows (entry_rule limits (tables s.stations.now s.carts.now s.messages.now) k) in
    let a = c.loop-m in
    all_yes s.held f a.m (omega arith) a.invariant.1
