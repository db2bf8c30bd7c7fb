-- `lines::pop_front` meets its contract. The line has a head, whose row goes back to the free rows.
use native.Mathlib.Omega.{arith}
use Prim.Native.Nat.{◌+◌, ◌*◌}
use Rattle.lines.proofs.Formed.{own_line, own_head, some_long}
use Rattle.lines.proofs.Pop.{givable, pop_is}
use Rattle.lines.proofs.pop_front.Goals as goal

pub head_of-row-requires : goal.head_of-row-requires
head_of-row-requires c = own_line c.args.pool.now c.requires.2 (c.args.i * 16 + c.args.j) (omega arith)

pub length_of-n-requires : goal.length_of-n-requires
length_of-n-requires c = own_line c.args.pool.now c.requires.2 (c.args.i * 16 + c.args.j) (omega arith)

pub next_of-requires : goal.next_of-requires
next_of-requires c =
    let h = c.head_of-row in
    own_head c.args.pool.now c.requires.2 (c.args.i * 16 + c.args.j) (omega arith) c.requires.3 h.result h.ensures

pub leave-requires : goal.leave-requires
leave-requires c =
    let n = c.length_of-n in
    (own_line c.args.pool.now c.requires.2 (c.args.i * 16 + c.args.j) (omega arith), omega (arith, some_long c.args.pool.now c.requires.2 (c.args.i * 16 + c.args.j) (omega arith) c.requires.3, n.ensures))

pub give_row-requires : goal.give_row-requires
give_row-requires c =
    let h = c.head_of-row in
    let n = c.length_of-n in
    let x = c.next_of in
    let l = c.leave in
    let g = givable c.args.pool.now (c.args.i * 16 + c.args.j) c.requires.2 (omega arith) c.requires.3 h.result h.ensures l.new.pool n.result x.result n.ensures x.ensures l.ensures in
    (g.0, g.1, omega (arith, g.2))

pub returns : goal.returns
returns c =
    let h = c.head_of-row in
    let n = c.length_of-n in
    let x = c.next_of in
    let l = c.leave in
    let g = c.give_row in
    pop_is c.args.pool.now (c.args.i * 16 + c.args.j) c.requires.2 (omega arith) c.requires.3 h.result h.ensures l.new.pool n.result x.result n.ensures x.ensures l.ensures g.new.pool g.ensures g.auto.pool
