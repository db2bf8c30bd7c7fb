-- `lines::is_empty` meets its contract. A line has as many records as its length says.
use native.Mathlib.Omega.{arith}
use Prim.Native.Nat.{ℕ, ◌+◌, ◌*◌}
use mathlib.Core.Path.{ap, sym, ◌∙◌}
use lib.Dec.{eqb}
use Rattle.lines.proofs.Formed.{own_line, length_line}
use Rattle.lines.proofs.is_empty.Goals as goal

pub length_of-requires : goal.length_of-requires
length_of-requires c = own_line c.args.pool.now c.requires.2 (c.args.i * 16 + c.args.j) (omega arith)

pub returns : goal.returns
returns c = ap (λ (n : ℕ). eqb n 0) (c.length_of.ensures ∙ sym (length_line c.args.pool.now (c.args.i * 16 + c.args.j)))
