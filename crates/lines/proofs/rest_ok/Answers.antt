-- `lines::rest_ok` meets its contract. Every line is right, so the rest of the form rule decides.
use native.Mathlib.Omega.{arith}
use mathlib.Core.Path.{refl, ◌∙◌}
use mathlib.Core.Bool.{true}
use Rattle.lines.proofs.Formed.{sized_of}
use Rattle.lines.proofs.Test.{form_unbalanced, form_end}
use Rattle.lines.proofs.rest_ok.Goals as goal

pub returns-else-rows_ok : goal.returns-else-rows_ok
returns-else-rows_ok c =
    let r = c.rows_ok in
    c.if-rows_ok.false ∙ form_unbalanced c.args.pool.now c.args.seen.now true c.requires.2 refl r.result r.ensures c.if-rows_ok.false

pub summary_ok-requires : goal.summary_ok-requires
summary_ok-requires c = omega (arith, (sized_of c.args.pool.now c.requires.0).0)

pub returns-then-rows_ok : goal.returns-then-rows_ok
returns-then-rows_ok c =
    let r = c.rows_ok in
    c.summary_ok.ensures ∙ form_end c.args.pool.now c.args.seen.now true c.requires.2 refl r.result r.ensures c.requires.0 c.if-rows_ok.true
