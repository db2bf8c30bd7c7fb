-- `lines::empty_lines` meets its contract. The invariant: the lines passed are empty, and the words before the lines stay.
use mathlib.Core.Path.{◌≡◌}
use Prim.Native.Nat.{ℕ, ◌≤◌, ◌<◌}
use lib.ListN.{length, get_or}
use Rattle.lines.specs.Words.{length_of}
use Rattle.lines.proofs.empty_lines.Given as goal

abbrev pub invariant-loop-k : goal.invariant-loop-k
invariant-loop-k l = (l.k ≤ 256) × (length l.pool ≡ length l.initial.pool) × ((j : ℕ) → j < l.k → length_of l.pool j ≡ 0) × ((a : ℕ) → a < 50 → get_or l.pool a 0 ≡ get_or l.initial.pool a 0)
