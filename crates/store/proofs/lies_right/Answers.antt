-- `store::lies_right` meets its contract.
use mathlib.Core.Path.{sym, ◌∙◌}
use borrow.Author.Tests.{not-true, not-false}
use Rattle.protocol.specs.Claims.{test}
use Rattle.protocol.proofs.Tests.{clash}
use Rattle.protocol.proofs.Answers.{yes, no, passed, refused}
use Rattle.messages.specs.View.{rooms_in}
use Rattle.store.specs.Texts.{is_stored}
use Rattle.store.specs.Layout.{within, text_rule}
use Rattle.store.proofs.Looks.{right_by}
use mathlib.Core.Bool.{not}
use mathlib.Core.Path.{ap}
use Rattle.store.proofs.lies_right.Goals as goal

pub returns-then-not-is_stored : goal.returns-then-not-is_stored
returns-then-not-is_stored c =
    let a = c.args in
    let R = rooms_in a.messages.now in
    yes (text_rule R a.m) (λ s. clash (is_stored R a.m) s (sym c.is_stored.ensures ∙ not-true _ (ap not c.if-not-is_stored.true)))

pub returns-then-not-lies_within : goal.returns-then-not-lies_within
returns-then-not-lies_within c =
    let a = c.args in
    let R = rooms_in a.messages.now in
    let s = sym c.is_stored.ensures ∙ not-false _ (ap not c.if-not-is_stored.false) in
    let t = c.lies_within in
    no (text_rule R a.m) (λ h. refused (within R a.m) t.result t.ensures (not-true _ (ap not c.if-not-lies_within.true)) (h s).0)

pub is_clear_before-requires : goal.is_clear_before-requires
is_clear_before-requires c =
    let a = c.args in
    let t = c.lies_within in
    record {
      has_room = c.requires.has_room;
      fact = passed (within (rooms_in a.messages.now) a.m) t.result t.ensures (not-false _ (ap not c.if-not-lies_within.false));
      fact_2 = λ k l s. (c.requires.fact k l s).0;
    }

pub returns : goal.returns
unfolding test
returns c =
    let s = c.is_stored in
    let t = c.lies_within in
    right_by _ _ _ _ (sym s.ensures ∙ not-false _ (ap not c.if-not-is_stored.false)) (sym t.ensures ∙ not-false _ (ap not c.if-not-lies_within.false)) c.is_clear_before.ensures
