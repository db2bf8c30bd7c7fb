use native.Mathlib.Omega.{arith}
use borrow.Author.Tests.{not-true, not-false}
use Rattle.lines.proofs.Formed.{sized_of}
use Rattle.lines.proofs.Test.{word_fails, word_more, rows_end}
use mathlib.Core.Bool.{not}
use mathlib.Core.Path.{ap}
use Rattle.lines.proofs.rows_ok.Goals as goal

pub row_count-rows-requires : goal.row_count-rows-requires
row_count-rows-requires c = omega (arith, (sized_of c.args.pool.now c.requires.0).0)

pub bounds-pool-w : goal.bounds-pool-w
bounds-pool-w c = omega (arith, (sized_of c.args.pool.now c.requires.0).0)

pub full_word-requires : goal.full_word-requires
full_word-requires c =
    let rows = c.row_count-rows in
    (omega (arith, (sized_of c.args.pool.now c.requires.0).1, rows.ensures), omega arith)

pub returns-then-not-word_ok : goal.returns-then-not-word_ok
returns-then-not-word_ok c =
    let a = c.loop-w in
    let rows = c.row_count-rows in
    let x = c.full_word in
    let t = c.word_ok in
    word_fails c.args.pool.now c.args.seen.now a.w rows.result x.result t.result rows.ensures x.ensures t.ensures (omega arith) (not-true _ (ap not c.if-not-word_ok.true))

pub loop-w-preserved : goal.loop-w-preserved
loop-w-preserved c =
    let a = c.loop-w in
    let rows = c.row_count-rows in
    let x = c.full_word in
    let t = c.word_ok in
    (omega arith, word_more c.args.pool.now c.args.seen.now a.w rows.result x.result t.result rows.ensures x.ensures t.ensures (not-false _ (ap not c.if-not-word_ok.false)) a.invariant.1)

pub returns : goal.returns
returns c =
    let a = c.loop-w in
    rows_end c.args.pool.now c.args.seen.now a.w (omega arith) a.invariant.1
