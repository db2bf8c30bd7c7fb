-- `form_tables::delete_ok` meets its contract.
use mathlib.Core.Path.{◌∙◌}
use borrow.Author.Rules.{rules}
use borrow.Author.Tests.{eq-eqb, lt-leb}
use Rattle.form_tables.proofs.Names.{delete_same, delete_many, delete_within}
use Rattle.form_tables.proofs.delete_ok.Goals as goal

pub returns-then-acked-named : goal.returns-then-acked-named
returns-then-acked-named c =
    let a = c.args in
    let e = c.if-acked-named.true in
    eq-eqb a.acked a.named e ∙ delete_same a.n a.waiting a.acked a.named e

pub returns-then-n-le64 : goal.returns-then-n-le64
returns-then-n-le64 c =
    let a = c.args in
    let low = c.all_below in
    delete_within a.n a.waiting a.acked a.named c.if-n-le64.true c.if-acked-named.false c.is_within.result low.result low.ensures c.is_within.ensures

pub returns-else-n-le64 : goal.returns-else-n-le64
returns-else-n-le64 c =
    let a = c.args in
    let l = c.if-n-le64.false in
    lt-leb a.n 64 l ∙ delete_many a.n a.waiting a.acked a.named (search rules) l c.if-acked-named.false
