-- `lines::word_ok` meets its contract. Two sets are the whole, and have none in common.
use mathlib.Core.Path.{sym, ◌∙◌}
use native.Mathlib.Omega.{arith}
use Rattle.lines.proofs.Bitmap.{word_or, word_and}
use borrow.Author.Tests.{ne_eqb}
use Rattle.lines.proofs.word_ok.Goals as goal

pub returns-then-union-whole : goal.returns-then-union-whole
returns-then-union-whole c =
    let all = c.union in
    c.is_disjoint.ensures ∙ word_and c.args.seen c.args.free c.args.whole (sym all.ensures ∙ c.if-union-whole.true)

pub returns-else-union-whole : goal.returns-else-union-whole
returns-else-union-whole c =
    let all = c.union in
    ne_eqb all.result c.args.whole c.if-union-whole.false ∙ word_or c.args.seen c.args.free c.args.whole (omega arith) (omega arith) (omega arith) (λ e. c.if-union-whole.false (all.ensures ∙ e))
