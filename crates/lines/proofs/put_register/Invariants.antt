-- `lines::put_register` meets its contract. The invariant: the words passed are written, and no other word.
use mathlib.Core.Path.{◌≡◌}
use Prim.Native.Nat.{◌≤◌}
use lib.ListN.{length}
use Rattle.lines.specs.Words.{register_at}
use Rattle.lines.proofs.Registers.{WrittenTo}
use Rattle.lines.proofs.put_register.Given as goal

abbrev pub invariant-loop-s : goal.invariant-loop-s
invariant-loop-s l = (l.s ≤ 16) × (length l.pool ≡ length l.initial.pool) × WrittenTo l.initial.pool l.pool (register_at l.cart) l.row l.s
