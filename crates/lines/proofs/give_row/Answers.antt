-- `lines::give_row` meets its contract. One bit of the free rows is set.
use Rattle.lines.proofs.Bitmap.{give_is}
use Rattle.lines.proofs.give_row.Goals as goal

pub returns : goal.returns
returns c =
    let x = c.with_member-word in
    let p = c.change_free in
    give_is c.args.pool.now p.new.pool c.args.row x.result c.requires.1 c.requires.2 x.ensures p.ensures
