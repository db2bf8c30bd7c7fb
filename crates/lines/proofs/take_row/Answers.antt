-- `lines::take_row` meets its contract. The least word of the summary is not 0, and its least bit is a free row.
use native.Mathlib.Omega.{arith}
use Rattle.sets.proofs.MaskLaws.{least_member}
use Rattle.lines.proofs.Bitmap.{first_word, take_is}
use Rattle.lines.proofs.take_row.Goals as goal

pub offset_bounds-pool-w : goal.offset_bounds-pool-w
offset_bounds-pool-w c = omega (arith, (first_word c.args.pool.now c.first-w.result c.requires.1 c.first-w.ensures).0)

pub bounds-pool-w : goal.bounds-pool-w
bounds-pool-w c =
    let w = c.first-w in
    omega (arith, (first_word c.args.pool.now w.result c.requires.1 w.ensures).0)

pub first-b-requires : goal.first-b-requires
first-b-requires c =
    let w = c.first-w in
    (first_word c.args.pool.now w.result c.requires.1 w.ensures).1

pub without_first-requires : goal.without_first-requires
without_first-requires c =
    let w = c.first-w in
    (first_word c.args.pool.now w.result c.requires.1 w.ensures).1

pub change_free-requires : goal.change_free-requires
change_free-requires c =
    let w = c.first-w in
    ((first_word c.args.pool.now w.result c.requires.1 w.ensures).0, omega arith, c.requires.1)

pub overflow_mul-result : goal.overflow_mul-result
overflow_mul-result c =
    let w = c.first-w in
    omega (arith, (first_word c.args.pool.now w.result c.requires.1 w.ensures).0)

pub overflow_add-result : goal.overflow_add-result
overflow_add-result c =
    let w = c.first-w in
    let b = c.first-b in
    omega (arith, (first_word c.args.pool.now w.result c.requires.1 w.ensures).0, (least_member 64 _ b.result b.ensures).0)

pub returns : goal.returns
returns c =
    let w = c.first-w in
    let b = c.first-b in
    let x = c.without_first in
    let p = c.change_free in
    take_is c.args.pool.now p.new.pool w.result b.result x.result c.requires.1
    (first_word c.args.pool.now w.result c.requires.1 w.ensures).0 b.ensures (x.ensures b.result b.ensures) p.ensures
