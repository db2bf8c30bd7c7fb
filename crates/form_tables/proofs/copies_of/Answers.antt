use mathlib.Core.Path.{◌≡◌, sym, ◌∙◌}
use mathlib.Core.Logic.{⊎_elim, inl, inr}
use native.Mathlib.Omega.{arith}
use borrow.Author.Tests.{not-true, not-false}
use Rattle.form_tables.proofs.Names.{held_of}
use Rattle.protocol.proofs.Answers.{passed, refused}
use Rattle.form_tables.proofs.Copies.{missing_start, missing_more, copies_free, copies_no, copies_end, copy_past, expected_past}
use Rattle.form_tables.specs.Tables.{tables, copy_named}
use mathlib.Core.Bool.{not}
use mathlib.Core.Path.{ap}
use Rattle.form_tables.proofs.copies_of.Goals as goal

pub returns-then-waiting_of-eq0 : goal.returns-then-waiting_of-eq0
returns-then-waiting_of-eq0 c =
    let a = c.args in
    copies_free (tables a.stations.now a.carts.now a.messages.now) a.m (sym c.waiting_of.ensures ∙ c.if-waiting_of-eq0.true)

pub loop-t-init : goal.loop-t-init
loop-t-init c =
    let a = c.args in
    (omega arith, missing_start (tables a.stations.now a.carts.now a.messages.now) a.m)

pub returns-then-not-copy_named : goal.returns-then-not-copy_named
returns-then-not-copy_named c =
    let a = c.args in
    let F = tables a.stations.now a.carts.now a.messages.now in
    let l = c.loop-t in
    let r = c.copy_named in
    let last = c.stations_of-end.ensures.floor in
    copies_no F a.m (held_of F a.m (λ z. c.if-waiting_of-eq0.false (c.waiting_of.ensures ∙ z))) l.t (omega arith)
    (refused (copy_named F a.m l.t) r.result r.ensures (not-true _ (ap not c.if-not-copy_named.true)))

pub loop-t-preserved : goal.loop-t-preserved
loop-t-preserved c =
    let a = c.args in
    let F = tables a.stations.now a.carts.now a.messages.now in
    let l = c.loop-t in
    let r = c.copy_named in
    let x = c.missing_at in (
      omega arith,
      missing_more F a.m l.t l.missing x.result c.union-missing.result l.invariant.1
          (passed (copy_named F a.m l.t) r.result r.ensures (not-false _ (ap not c.if-not-copy_named.false))) x.ensures c.union-missing.ensures,
    )

pub returns : goal.returns
returns c =
    let a = c.args in
    let F = tables a.stations.now a.carts.now a.messages.now in
    let p = c.requires.0 in
    let l = c.loop-t in
    let few = c.stations_of-end in
    let last : l.t ≡ few.result = omega arith in
    let s = c.initiator_of-s in
    let n = c.number_of-n in
    let k = c.cart_count in
    copies_end F a.m (held_of F a.m (λ z. c.if-waiting_of-eq0.false (c.waiting_of.ensures ∙ z)))
    (copy_past a.stations.now p.rows p.whole p.few a.m) (expected_past a.stations.now p.rows p.whole p.few)
    l.t l.missing k.result s.result.0 n.result.0 l.invariant.1 (omega (arith, few.ensures.floor))
    (⊎_elim (λ w. inl (omega arith)) (λ w. inr (omega arith)) few.ensures.end)
    k.ensures s.ensures n.ensures c.all_past.result c.all_past.ensures
