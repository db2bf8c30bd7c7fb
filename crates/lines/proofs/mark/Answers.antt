-- `lines::mark` meets its contract. One bit of a row of words is set.
use Rattle.lines.proofs.Bitmap.{mark_is}
use Rattle.lines.proofs.mark.Goals as goal

pub returns : goal.returns
returns c = mark_is c.args.seen.now c.args.row c.with_member.result c.requires c.with_member.ensures
