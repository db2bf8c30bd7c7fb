-- `lines::push_back` meets its contract. There is room, so the summary has a bit, and the row that it finds joins the line.
use native.Mathlib.Omega.{arith}
use Prim.Native.Nat.{◌+◌, ◌*◌}
use Rattle.lines.proofs.Formed.{own_line, linkable, takable}
use Rattle.lines.proofs.Push.{join_fits, push_is}
use Rattle.lines.proofs.push_back.Goals as goal

pub link_at-at-requires : goal.link_at-at-requires
link_at-at-requires c = linkable c.args.pool.now c.requires.2 (c.args.i * 16 + c.args.j) (omega arith)

pub length_of-n-requires : goal.length_of-n-requires
length_of-n-requires c = own_line c.args.pool.now c.requires.2 (c.args.i * 16 + c.args.j) (omega arith)

pub take_row-row-requires : goal.take_row-row-requires
take_row-row-requires c = takable c.args.pool.now c.requires.2 c.requires.3

pub join-requires : goal.join-requires
join-requires c =
    let at = c.link_at-at in
    let n = c.length_of-n in
    let f = c.take_row-row in
    join_fits c.args.pool.now f.new.pool at.result (c.args.i * 16 + c.args.j) f.result n.result c.args.r c.requires.2 (omega arith) f.ensures f.auto.pool n.ensures at.ensures

pub returns : goal.returns
returns c =
    let at = c.link_at-at in
    let n = c.length_of-n in
    let f = c.take_row-row in
    let l = c.join in
    push_is c.args.pool.now f.new.pool at.result (c.args.i * 16 + c.args.j) f.result n.result c.args.r c.requires.2 (omega arith) f.ensures f.auto.pool n.ensures at.ensures l.new.pool l.ensures
