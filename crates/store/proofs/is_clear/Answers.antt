-- `store::is_clear` meets its contract.
use mathlib.Core.Path.{sym, ap₂, ◌∙◌}
use Prim.Native.Nat.{ℕ, ◌+◌}
use native.Mathlib.Omega.{arith}
use lib.Dec.{leb}
use borrow.Author.Tests.{not-true, not-false, le-leb}
use Rattle.protocol.specs.Claims.{test, is, when}
use Rattle.protocol.proofs.Tests.{clash, or_left}
use Rattle.protocol.proofs.Answers.{yes}
use Rattle.messages.specs.View.{rooms_in}
use Rattle.store.specs.Texts.{is_stored}
use Rattle.store.specs.Layout.{apart}
use Rattle.store.proofs.Looks.{clear_by}
use mathlib.Core.Bool.{not}
use mathlib.Core.Path.{ap}
use Rattle.store.proofs.is_clear.Goals as goal

pub returns-then-not-is_stored : goal.returns-then-not-is_stored
returns-then-not-is_stored c =
    let a = c.args in
    let R = rooms_in a.messages.now in
    yes (when (is (is_stored R a.k)) (apart R a.k a.m)) (λ s. clash (is_stored R a.k) s (sym c.is_stored.ensures ∙ not-true _ (ap not c.if-not-is_stored.true)))

pub returns-then-other-length_of : goal.returns-then-other-length_of
returns-then-other-length_of c =
    let a = c.args in
    let R = rooms_in a.messages.now in
    yes (when (is (is_stored R a.k)) (apart R a.k a.m))
    (λ s. or_left (leb (R.offset a.k + R.length a.k) (R.offset a.m)) _ (le-leb (R.offset a.k + R.length a.k) (R.offset a.m) (omega (arith, c.if-other-length_of.true, c.length_of.ensures, c.offset_of-other.ensures, c.offset_of-own.ensures))))

pub returns : goal.returns
unfolding test
returns c =
    let a = c.args in
    let R = rooms_in a.messages.now in
    let p = c.offset_of-other.ensures in
    let q = c.offset_of-own.ensures in
    clear_by (is_stored R a.k) (R.offset a.k) (R.offset a.m) (R.length a.k) (R.length a.m) _ _ (sym c.is_stored.ensures ∙ not-false _ (ap not c.if-not-is_stored.false))
    (omega (arith, c.if-other-length_of.false, c.length_of.ensures, p, q))
    (ap₂ (λ (x y : ℕ). x + y) q c.length_of-2.ensures)
    p
