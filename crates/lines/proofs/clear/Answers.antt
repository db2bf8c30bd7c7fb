-- `lines::clear` meets its contract. What `free_all` and `empty_lines` leave is a pool with no record.
use native.Mathlib.Omega.{arith}
use mathlib.Core.Path.{◌∙◌}
use Rattle.lines.proofs.Formed.{sized_of}
use Rattle.lines.proofs.Start.{clear_is}
use Rattle.lines.proofs.clear.Goals as goal

pub empty_lines-requires : goal.empty_lines-requires
empty_lines-requires c = omega (arith, (sized_of c.args.pool.now c.requires).0, c.free_all.auto.pool)

pub returns : goal.returns
returns c =
    let f = c.free_all in
    let e = c.empty_lines in
    clear_is c.args.pool.now f.new.pool e.new.pool c.requires f.ensures e.ensures (e.auto.pool ∙ f.auto.pool)
