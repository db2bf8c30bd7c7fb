-- `form_lines::note_multicast` meets its contract.
use lib.Dec.{eqb}
use borrow.Author.Tests.{ne_eqb}
use Rattle.form_lines.specs.Said.{a_multicast}
use Rattle.form_lines.specs.Pass.{fresh}
use Rattle.form_lines.specs.Ways.{met_of}
use Rattle.form_lines.proofs.StepLaws.{off_first, off_second, counts_on}
use Rattle.form_lines.proofs.note_multicast.Goals as goal
use Rattle.form_lines.proofs.note_multicast.Goals.{else-right-via-then-right+else-number-way, else-right-via-else-right}

pub returns-then-number-way : goal.returns-then-number-way
returns-then-number-way c = let a = c.args in λ seen. counts_on a.way a.right a.m a.number seen c.if-right.true c.if-number-way.true

pub returns-else-right : goal.returns-else-right
unfolding fresh
returns-else-right c =
    let a = c.args in
    λ seen. let s = met_of a.way seen in
    let r = a_multicast a.m a.number in
    elim c.else-right.branch [
      | else-right-via-then-right+else-number-way w ↦ off_second a.right (eqb a.number a.way.next) s r (met_of c.failed.result seen) (ne_eqb a.number a.way.next w.if-number-way.false) (c.failed.ensures seen)
      | else-right-via-else-right w ↦ off_first a.right (eqb a.number a.way.next) s r (met_of c.failed.result seen) w.if-right.false (c.failed.ensures seen)
    ]
