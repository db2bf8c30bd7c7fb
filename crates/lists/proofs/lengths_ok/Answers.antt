-- `lists::lengths_ok` meets its contract.
use borrow.Author.Tests.{ne_eqb, eq-eqb}
use mathlib.Core.Logic.{inl, inr}
use Rattle.lists.specs.View.{lent_right}
use Rattle.lists.proofs.lengths_ok.Goals as goal
use Rattle.lists.proofs.lengths_ok.Goals.{then-counts-eq-COUNTS, else-counts-eq-COUNTS}

pub returns-then-sends-eq-SENDS : goal.returns-then-sends-eq-SENDS
unfolding lent_right
returns-then-sends-eq-SENDS c = rw (eq-eqb _ _ c.if-sends-eq-SENDS.true.0, eq-eqb _ _ c.if-sends-eq-SENDS.true.1)

pub returns-else-sends-eq-SENDS : goal.returns-else-sends-eq-SENDS
unfolding lent_right
returns-else-sends-eq-SENDS c =
    elim c.if-counts-eq-COUNTS.branch [
      | then-counts-eq-COUNTS w ↦
          let t = w.if-counts-eq-COUNTS.true in
          rw (w.t-5-is, eq-eqb _ _ t, ne_eqb _ 8192 (elim c.if-sends-eq-SENDS.either [ inl z ↦ z.1 | inr z ↦ absurd (z t) ]))
      | else-counts-eq-COUNTS w ↦ rw (w.t-5-is, ne_eqb _ _ w.if-counts-eq-COUNTS.false)
    ]
