-- `tested_lists::sent_ok` meets its contract.
use Prim.Native.Nat.{ℕ, ◌≤◌, ◌<◌}
use Rattle.lists.specs.View.{counts_in}
use Rattle.tested_lists.proofs.sent_ok.Given as goal

abbrev pub invariant-loop-s : goal.invariant-loop-s
invariant-loop-s l = (l.s ≤ l.n) × ((t : ℕ) → t < l.s → (counts_in l.counts).sent t ≤ 4294967295)
