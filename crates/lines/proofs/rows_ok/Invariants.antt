-- `lines::rows_ok` meets its contract. The invariant: the rows of the words passed are each free or seen, not both.
use mathlib.Core.Path.{◌≡◌}
use Prim.Native.Nat.{ℕ, ◌+◌, ◌*◌, ◌≤◌, ◌<◌}
use lib.Dec.{ltb}
use Rattle.protocol.specs.Form.{bit}
use Rattle.lines.specs.Bits.{bit_at}
use Rattle.lines.specs.Words.{capacity}
use Rattle.lines.proofs.rows_ok.Given as goal

abbrev pub invariant-loop-w : goal.invariant-loop-w
invariant-loop-w l = (l.w ≤ 49) × ((x : ℕ) → x < l.w * 64 → bit_at l.seen x + bit_at l.pool x ≡ bit (ltb x (capacity l.pool)))
