-- `form_tables::counts_ok` meets its contract.
use mathlib.Core.Path.{sym, ◌∙◌}
use mathlib.Core.List.{List, []}
use Prim.Native.Nat.{ℕ}
use native.Mathlib.Omega.{arith}
use borrow.Author.Tests.{eqb-true, eq-eqb}
use Rattle.protocol.specs.Claims.{Claim, both, lt, le}
use Rattle.products.specs.declared.Bounds.{Bounds}
use Rattle.protocol.proofs.Answers.{no, passed, refused, same_answer}
use Rattle.form_tables.specs.Tables.{tables, counts_rule}
use Rattle.form_tables.proofs.counts_ok.Goals as goal

-- what is decided
abbrev rule : Bounds → List ℕ → Claim
rule b S = counts_rule b.stations b.carts (tables S [] [])

abbrev few : ℕ → ℕ → Claim
few n most = both (lt 0 n) (le n most)

pub returns-then-mark_of-ne-STARTED : goal.returns-then-mark_of-ne-STARTED
returns-then-mark_of-ne-STARTED c = no (let a = c.args in rule a.bounds a.stations.now) (λ h. c.if-mark_of-ne-STARTED.true (c.mark_of.ensures ∙ eqb-true _ 1 h.0))

pub returns-then-is_few : goal.returns-then-is_few
returns-then-is_few c =
    let b = c.args.bounds in
    let n = passed (few c.station_count.result b.stations) c.is_few.result c.is_few.ensures c.if-is_few.true in
    c.is_few-then-is_few.ensures
    ∙ same_answer (few c.cart_count.result b.carts) (rule b c.args.stations.now)
    (λ k. (eq-eqb _ 1 (sym c.mark_of.ensures ∙ c.if-mark_of-ne-STARTED.false), ((omega (arith, n.0), omega (arith, n.1)), (omega (arith, k.0), omega (arith, k.1)))))
    (λ h. (omega (arith, h.1.1.0), omega (arith, h.1.1.1)))

pub returns-else-is_few : goal.returns-else-is_few
returns-else-is_few c =
    let b = c.args.bounds in
    c.if-is_few.false
    ∙ no (rule b c.args.stations.now) (λ h. refused (few c.station_count.result b.stations) c.is_few.result c.is_few.ensures c.if-is_few.false (omega (arith, h.1.0.0), omega (arith, h.1.0.1)))
