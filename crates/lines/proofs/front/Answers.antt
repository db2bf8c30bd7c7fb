-- `lines::front` meets its contract. The head's row is one of the pool.
use native.Mathlib.Omega.{arith}
use Prim.Native.Nat.{◌+◌, ◌*◌}
use Rattle.lines.proofs.Formed.{own_line, own_head}
use Rattle.lines.proofs.Pop.{front_is}
use Rattle.lines.proofs.front.Goals as goal

pub head_of-requires : goal.head_of-requires
head_of-requires c = own_line c.args.pool.now c.requires.2 (c.args.i * 16 + c.args.j) (omega arith)

pub record_of-requires : goal.record_of-requires
record_of-requires c =
    let h = c.head_of in
    own_head c.args.pool.now c.requires.2 (c.args.i * 16 + c.args.j) (omega arith) c.requires.3 h.result h.ensures

pub returns : goal.returns
returns c =
    let h = c.head_of in
    let r = c.record_of in
    front_is c.args.pool.now (c.args.i * 16 + c.args.j) c.requires.2 (omega arith) c.requires.3 h.result h.ensures r.result r.ensures
