use Prim.Native.Nat.{ℕ}
use native.Mathlib.Omega.{arith}
use borrow.Author.Tests.{not-true, not-false}
use Rattle.protocol.specs.Claims.{Claim, is, when}
use Rattle.protocol.proofs.Answers.{one_more, all_yes, all_no, passed, refused}
use Rattle.messages.specs.View.{rooms_in}
use Rattle.store.specs.Texts.{is_stored}
use Rattle.store.specs.Layout.{apart}
use mathlib.Core.Bool.{not}
use mathlib.Core.Path.{ap}
use Rattle.store.proofs.is_clear_before.Goals as goal

pub returns-then-not-is_clear : goal.returns-then-not-is_clear
returns-then-not-is_clear c =
    let a = c.args in
    let R = rooms_in a.messages.now in
    let k = c.loop-k.k in
    let f : ℕ → Claim = λ j. when (is (is_stored R j)) (apart R j a.m) in
    let t = c.is_clear in
    all_no a.m f k (omega arith) (refused (f k) t.result t.ensures (not-true _ (ap not c.if-not-is_clear.true)))

pub loop-k-preserved : goal.loop-k-preserved
loop-k-preserved c =
    let a = c.args in
    let R = rooms_in a.messages.now in
    let l = c.loop-k in
    let f : ℕ → Claim = λ j. when (is (is_stored R j)) (apart R j a.m) in
    let t = c.is_clear in
    (omega arith, one_more f l.k l.invariant.1 (passed (f l.k) t.result t.ensures (not-false _ (ap not c.if-not-is_clear.false))))

pub returns : goal.returns
returns c =
    let a = c.args in
    let R = rooms_in a.messages.now in
    let l = c.loop-k in
    all_yes a.m (λ j. when (is (is_stored R j)) (apart R j a.m)) l.k (omega arith) l.invariant.1
