use native.Mathlib.Omega.{arith}
use mathlib.Core.Path.{refl, ◌∙◌}
use native.Mathlib.Nat.{not-suc-le-zero}
use lib.ListN.{length-set}
use Rattle.lines.proofs.Formed.{sized_of}
use Rattle.lines.proofs.Start.{free_start, free_more, free_end}
use Rattle.lines.proofs.free_all.Goals as goal

pub row_count-rows-requires : goal.row_count-rows-requires
row_count-rows-requires c = omega (arith, (sized_of c.args.pool.now c.requires).0)

pub bounds-pool-49 : goal.bounds-pool-49
bounds-pool-49 c = omega (arith, (sized_of c.args.pool.now c.requires).0)

pub loop-w-init : goal.loop-w-init
loop-w-init c = (omega arith, refl, free_start c.args.pool.now (omega (arith, (sized_of c.args.pool.now c.requires).0)), λ v h. absurd (not-suc-le-zero h))

pub full_word-requires : goal.full_word-requires
full_word-requires c =
    let rows = c.row_count-rows in
    (omega (arith, (sized_of c.args.pool.now c.requires).1, rows.ensures), omega arith)

pub put_free-requires : goal.put_free-requires
put_free-requires c =
    let a = c.loop-w in
    (omega arith, omega (arith, (sized_of c.args.pool.now c.requires).0, simp length-set at a.invariant.1))

pub loop-w-preserved : goal.loop-w-preserved
loop-w-preserved c =
    let a = c.loop-w in
    let rows = c.row_count-rows in
    let x = c.full_word in
    let p = c.put_free in
    (omega arith, p.auto.pool ∙ a.invariant.1, p.ensures.summary.small a.invariant.2, free_more a.pool p.new.pool rows.result a.w x.result p.ensures (omega arith) x.ensures a.invariant.3)

pub returns : goal.returns
returns c =
    let a = c.loop-w in
    let rows = c.row_count-rows in
    free_end c.args.pool.now a.pool rows.result a.w rows.ensures (omega arith) a.invariant.2 a.invariant.3
