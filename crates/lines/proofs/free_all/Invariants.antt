-- `lines::free_all` meets its contract. The invariant: the words passed have all their rows free, and the summary says so.
use mathlib.Core.Path.{◌≡◌}
use Prim.Native.Nat.{ℕ, ◌^◌, ◌≤◌, ◌<◌}
use lib.ListN.{length}
use Rattle.lines.specs.Words.{summary_of}
use Rattle.lines.proofs.Start.{FreeAt}
use Rattle.lines.proofs.free_all.Given as goal

abbrev pub invariant-loop-w : goal.invariant-loop-w
invariant-loop-w l = (l.w ≤ 49) × (length l.pool ≡ length l.initial.pool) × (summary_of l.pool < 2 ^ 49) × ((v : ℕ) → v < l.w → FreeAt l.pool l.rows v)
