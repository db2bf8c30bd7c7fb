-- A WALK OVER A SET, as a loop over its members sees it.
use mathlib.Core.Path.{◌≡◌, ap}
use mathlib.Core.Bool.{true, false}
use Prim.Native.Nat.{ℕ, ◌^◌, ◌≤◌, ◌<◌}
use Rattle.std.specs.Prelude as code
use Rattle.std.specs.Prelude.{Some, None}
use Rattle.protocol.specs.CartSets.{has}
use Rattle.sets.specs.declared.Members.{Members}
use Rattle.sets.specs.Walks.{GivesLeast}
use Rattle.sets.proofs.Walk.{Ahead, Turn, ahead_start, ahead_turn, ahead_end}

-- it starts before the first number
pub walk_start : (n set : ℕ) {walk : Members} → walk ≡ record { left = set } → set < 2 ^ 64 → ((c : ℕ) → has set c ≡ true → c < n) → Ahead n set walk.left 0
walk_start n set e small inside = rw (ap (λ (x : Members). x.left) e) (ahead_start n set small inside)

-- a turn is at the next member
pub walk_turn : (n set k : ℕ) {before after : Members} {step : code.Option ℕ} {m : ℕ} → GivesLeast before step after → Ahead n set before.left k → step ≡ Some m → Turn n set before.left k m after.left
walk_turn n set k {before = before} {after = after} {m = m} steps A e =
    let s : GivesLeast before (Some m) after = rw e at steps in
    ahead_turn n set before.left k m A s.0 s.1 after.left s.2

-- at the end nothing is left
pub walk_end : (n set k : ℕ) {before : Members} (after : Members) {step : code.Option ℕ} → GivesLeast before step after → Ahead n set before.left k → step ≡ None → (c : ℕ) → k ≤ c → has set c ≡ false
walk_end n set k {before = before} after steps A e =
    let s : GivesLeast before None after = rw e at steps in
    let B : Ahead n set 0 k = rw s.0 at A in
    ahead_end n set k B
