-- `frame_lines::spell_all` meets its contract.
use Prim.Native.Nat.{ℕ, ◌≤◌, ◌<◌}
use mathlib.Core.Path.{◌≡◌}
use lib.ListN.{length, get_or}
use Rattle.frame_lines.specs.Lines.{Spells}
use Rattle.frame_lines.proofs.spell_all.Given as goal

abbrev pub invariant-loop-n : goal.invariant-loop-n
invariant-loop-n l = (length l.numbers ≡ 10000) × (l.n ≤ 10000) × ((k : ℕ) → k < l.n → Spells (get_or l.numbers k 0) k)
