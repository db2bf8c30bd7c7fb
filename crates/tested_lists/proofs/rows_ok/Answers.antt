use Rattle.protocol.proofs.Tests.{clash}
use mathlib.Core.Path.{refl, ap, sym, ◌∙◌}
use mathlib.Core.List.{[]}
use native.Mathlib.Omega.{arith}
use lib.ListN.{get_or-replicate}
use Rattle.protocol.proofs.ClaimLaws.{reflect}
use Rattle.sets.specs.Masks.{size}
use Rattle.list_rows.specs.declared.Message.{Message}
use Rattle.list_rows.specs.Rows.{rows_in}
use Rattle.lists.specs.View.{counts_in}
use Rattle.lists.proofs.Checks.{at_most_64}
use Rattle.tested_lists.proofs.Pass.{fits_here, few_entries, row_fails, passed_on, rows_end, none_passed}
use Rattle.tested_lists.proofs.rows_ok.Goals as goal

pub bounds-counts-3 : goal.bounds-counts-3
bounds-counts-3 c = omega (arith, c.requires.0)

pub loop-row-init : goal.loop-row-init
loop-row-init c =
    let a = c.args in
    (omega arith, λ octets. none_passed (counts_in a.counts.now) (rows_in a.sends.now octets) _ refl (λ s l. get_or-replicate 16 s 0 0 l))

pub row_ok-requires : goal.row_ok-requires
row_ok-requires c =
    let rule = c.requires.2 in
    (c.requires.0, rule.1.0.0.1, rule.1.0.1.1, omega (arith, rule.1.1.0, c.requires.1, c.loop-row.invariant.0, c.loop-row-test.true))

pub returns-then-not-row_ok : goal.returns-then-not-row_ok
returns-then-not-row_ok c octets =
    let a = c.args in
    let l = c.loop-row in
    let N = counts_in a.counts.now in
    let T = rows_in a.sends.now octets in
    let rule = c.requires.2 in
    row_fails N T l.low l.entries l.row (l.invariant.1 octets) rule.1.0.0.1 rule.1.0.1.1 c.loop-row-test.true
    (λ h. clash _ ((reflect (fits_here N T l.low l.row)).1 h) (sym (c.row_ok.ensures octets) ∙ c.if-not-row_ok.true))

pub message_at-message-requires : goal.message_at-message-requires
message_at-message-requires c = omega (arith, c.requires.2.1.1.0, c.requires.1, c.loop-row.invariant.0, c.loop-row-test.true)

pub overflow_add-low : goal.overflow_add-low
overflow_add-low c =
    let a = c.args in
    let l = c.loop-row in
    let fits = (reflect (fits_here (counts_in a.counts.now) (rows_in a.sends.now []) l.low l.row)).0 (sym (c.row_ok.ensures []) ∙ c.if-not-row_ok.false) in
    let number = ap (λ (m : Message). m.number.0) (c.message_at-message.ensures []) in
    omega (arith, number, fits.1.1.0, c.requires.2.1.1.1.1 _ fits.0)

pub offset_bounds-low-s : goal.offset_bounds-low-s
offset_bounds-low-s c =
    let a = c.args in
    let l = c.loop-row in
    let fits = (reflect (fits_here (counts_in a.counts.now) (rows_in a.sends.now []) l.low l.row)).0 (sym (c.row_ok.ensures []) ∙ c.if-not-row_ok.false) in
    let station = ap (λ (m : Message). m.initiator.0) (c.message_at-message.ensures []) in
    omega (arith, station, fits.0, c.requires.2.1.0.0.1)

pub bounds-low-s : goal.bounds-low-s
bounds-low-s c =
    let a = c.args in
    let l = c.loop-row in
    let fits = (reflect (fits_here (counts_in a.counts.now) (rows_in a.sends.now []) l.low l.row)).0 (sym (c.row_ok.ensures []) ∙ c.if-not-row_ok.false) in
    let station = ap (λ (m : Message). m.initiator.0) (c.message_at-message.ensures []) in
    omega (arith, station, fits.0, c.requires.2.1.0.0.1, (l.invariant.1 []).long)

pub overflow_add-entries : goal.overflow_add-entries
overflow_add-entries c =
    let a = c.args in
    let l = c.loop-row in
    let rule = c.requires.2 in
    let few = few_entries (counts_in a.counts.now) (rows_in a.sends.now []) l.low l.entries l.row (l.invariant.1 []) rule.1.0.0.1 rule.1.0.1.1 in
    omega (arith, few, rule.1.1.0, c.loop-row-test.true, at_most_64 _ c.count-entries.result c.count-entries.ensures)

pub loop-row-preserved : goal.loop-row-preserved
loop-row-preserved c =
    let a = c.args in
    let l = c.loop-row in
    let N = counts_in a.counts.now in
    let rule = c.requires.2 in (
      omega (arith, c.loop-row-test.true),
      λ octets.
          let T = rows_in a.sends.now octets in
          let fits = (reflect (fits_here N T l.low l.row)).0 (sym (c.row_ok.ensures octets) ∙ c.if-not-row_ok.false) in
          let message = c.message_at-message.ensures octets in
          passed_on N T l.low l.entries l.row (l.invariant.1 octets) rule.1.0.0.1 rule.1.0.1.1 fits _ _ c.count-entries.result
          (ap (λ (m : Message). m.initiator.0) message) (ap (λ (m : Message). m.number.0) message) (c.count-entries.ensures ∙ ap (λ (m : Message). size 64 m.carts) message),
    )

pub bounds-counts-4 : goal.bounds-counts-4
bounds-counts-4 c = omega (arith, c.requires.0)

pub returns : goal.returns
returns c octets =
    let a = c.args in
    let l = c.loop-row in
    let rule = c.requires.2 in
    rows_end (counts_in a.counts.now) (rows_in a.sends.now octets) l.low l.entries l.row (l.invariant.1 octets) rule.1.0.0.1 rule.1.0.1.1 (omega (arith, l.invariant.0, c.loop-row-test.false))
