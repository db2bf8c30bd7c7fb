-- `form_lines::note_handoff` meets its contract.
use mathlib.Core.Path.{sym, ap, ◌∙◌}
use mathlib.Core.Bool.{not}
use Prim.Native.Nat.{ℕ}
use Rattle.protocol.specs.CartSets.{has}
use Rattle.form_lines.specs.Said.{a_deregister}
use Rattle.form_lines.specs.Pass.{noted_so, fresh, note}
use Rattle.form_lines.specs.Ways.{met_of}
use Rattle.form_lines.proofs.StepLaws.{off_first, off_second, on_both}
use Rattle.form_lines.proofs.note_handoff.Goals as goal
use Rattle.form_lines.proofs.note_handoff.Goals.{else-right-via-then-right+else-not-has, else-right-via-else-right}

pub returns-then-not-has : goal.returns-then-not-has
unfolding fresh note
returns-then-not-has c =
    let a = c.args in
    λ seen. on_both a.right (not (has a.way.found a.cart)) (met_of a.way seen) (a_deregister a.cart) (noted_so a.way.ok a.way.next a.way.gone c.with_member.result seen)
    c.if-right.true (ap not (sym c.has.ensures ∙ c.if-not-has.true)) (ap (λ (y : ℕ). noted_so a.way.ok a.way.next a.way.gone y seen) c.with_member.ensures)

pub returns-else-right : goal.returns-else-right
unfolding fresh
returns-else-right c =
    let a = c.args in
    λ seen. let s = met_of a.way seen in
    let r = a_deregister a.cart in
    elim c.else-right.branch [
      | else-right-via-then-right+else-not-has w ↦ off_second a.right (not (has a.way.found a.cart)) s r (met_of c.failed.result seen) (ap not (sym w.has.ensures ∙ w.if-not-has.false)) (c.failed.ensures seen)
      | else-right-via-else-right w ↦ off_first a.right (not (has a.way.found a.cart)) s r (met_of c.failed.result seen) w.if-right.false (c.failed.ensures seen)
    ]
