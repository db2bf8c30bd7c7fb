-- `lines::register_of` meets its contract. The invariant: the words passed are those of the register.
use mathlib.Core.Path.{◌≡◌}
use Prim.Native.Nat.{◌≤◌}
use lib.ListN.{length}
use Rattle.rows.proofs.WordByWord.{ReadTo}
use Rattle.lines.specs.Lines.{registers_in}
use Rattle.lines.proofs.register_of.Given as goal

abbrev pub invariant-loop-s : goal.invariant-loop-s
invariant-loop-s l = (l.s ≤ 16) × (length l.row ≡ 16) × ReadTo (registers_in l.pool l.cart) l.row l.s
