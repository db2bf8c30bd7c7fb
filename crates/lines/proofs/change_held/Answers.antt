-- `lines::change_held` meets its contract. The word stays held, or it is used up and stored, and the next one is held.
use native.Mathlib.Omega.{arith}
use Rattle.lines.proofs.Holding.{change_part, change_last, changed_summary}
use Rattle.lines.proofs.change_held.Goals as goal

pub returns-then-x-gt0 : goal.returns-then-x-gt0
returns-then-x-gt0 c = change_part c.args.pool.now c.args.held c.args.x c.requires.0 c.requires.1 c.requires.2 c.requires.3 c.if-x-gt0.true

pub hold-requires : goal.hold-requires
hold-requires c =
    let p = c.put_free in (
      omega arith,
      changed_summary c.args.pool.now c.args.held c.args.x c.requires.0 c.requires.1 c.requires.2 c.requires.3 p.new.pool
          (change_last c.args.pool.now c.args.held c.args.x c.requires.0 c.requires.1 c.requires.2 c.requires.3
          p.new.pool c.if-x-gt0.false p.ensures),
    )

pub returns : goal.returns
returns c =
    let p = c.put_free in
    let h = c.hold.ensures in (
      rw h.0
          (change_last c.args.pool.now c.args.held c.args.x c.requires.0 c.requires.1 c.requires.2 c.requires.3
          p.new.pool c.if-x-gt0.false p.ensures),
      h.1,
    )
