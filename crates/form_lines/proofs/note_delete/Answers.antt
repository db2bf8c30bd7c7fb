-- `form_lines::note_delete` meets its contract.
use mathlib.Core.Path.{sym, ap, ◌∙◌}
use mathlib.Core.Bool.{Bool, ◌&&◌, not}
use Prim.Native.Nat.{ℕ}
use lib.Dec.{ltb}
use borrow.Author.Tests.{lt-ltb, le-ltb}
use Rattle.protocol.specs.CartSets.{has}
use Rattle.protocol.proofs.Tests.{and_intro, and_second_false}
use Rattle.form_lines.specs.Said.{a_delete}
use Rattle.form_lines.specs.Pass.{noted_so, fresh, note}
use Rattle.form_lines.specs.Ways.{met_of}
use Rattle.form_lines.proofs.StepLaws.{off_first, off_second, on_both}
use Rattle.form_lines.proofs.note_delete.Goals as goal
use Rattle.form_lines.proofs.note_delete.Goals.{else-right-via-then-right+then-number-way+else-not-has, else-right-via-then-right+else-number-way, else-right-via-else-right}

pub returns-then-not-has : goal.returns-then-not-has
unfolding fresh note
returns-then-not-has c =
    let a = c.args in
    λ seen. on_both a.right (ltb a.number a.way.next && not (has a.way.gone a.m)) (met_of a.way seen) (a_delete a.m a.number) (noted_so a.way.ok a.way.next c.with_member.result a.way.found seen)
    c.if-right.true (and_intro _ _ (lt-ltb a.number a.way.next c.if-number-way.true) (ap not (sym c.has.ensures ∙ c.if-not-has.true)))
    (ap (λ (y : ℕ). noted_so a.way.ok a.way.next y a.way.found seen) c.with_member.ensures)

pub returns-else-right : goal.returns-else-right
unfolding fresh
returns-else-right c =
    let a = c.args in
    λ seen. let s = met_of a.way seen in
    let r = a_delete a.m a.number in
    let f = ltb a.number a.way.next && not (has a.way.gone a.m) in
    elim c.else-right.branch [
      | else-right-via-then-right+then-number-way+else-not-has w ↦ off_second a.right f s r (met_of c.failed.result seen) (and_second_false _ _ (ap not (sym w.has.ensures ∙ w.if-not-has.false))) (c.failed.ensures seen)
      | else-right-via-then-right+else-number-way w ↦ off_second a.right f s r (met_of c.failed.result seen) (ap (λ (b : Bool). b && not (has a.way.gone a.m)) (le-ltb a.number a.way.next w.if-number-way.false)) (c.failed.ensures seen)
      | else-right-via-else-right w ↦ off_first a.right f s r (met_of c.failed.result seen) w.if-right.false (c.failed.ensures seen)
    ]
