-- `form_tables::none_below` meets its contract.
use mathlib.Core.Path.{◌∙◌}
use native.Mathlib.Omega.{arith}
use borrow.Author.Tests.{eq-eqb, le-leb, lt-leb}
use Rattle.protocol.proofs.Tests.{by_lt}
use Rattle.form_tables.proofs.Copies.{none_empty, none_one, none_beyond}
use Rattle.form_tables.proofs.none_below.Goals as goal

pub returns-then-set-eq0 : goal.returns-then-set-eq0
returns-then-set-eq0 c = let e = c.if-set-eq0.true in eq-eqb _ 0 e ∙ none_empty c.args.set c.args.k e

pub returns-else-set-eq0 : goal.returns-else-set-eq0
returns-else-set-eq0 c =
    let a = c.args in
    let least = c.first in
    by_lt least.result a.k
    (λ l. lt-leb a.k least.result l ∙ none_one a.set a.k least.result (omega arith) (omega arith) least.ensures l)
    (λ l. le-leb a.k least.result l ∙ none_beyond a.set a.k least.result (omega arith) (omega arith) least.ensures l)
