-- THE ROOM OF A MESSAGE: a search that passes the rooms one by one finds the first that passes a test.
use mathlib.Core.Path.{◌≡◌, sym, ap, ◌∙◌}
use mathlib.Core.Bool.{Bool, true, false}
use Prim.Native.Nat.{ℕ, ◌+◌, ◌≤◌, ◌<◌}
use native.Mathlib.Omega.{arith}
use Rattle.protocol.specs.Folds.{first}
use Rattle.protocol.proofs.Tests.{by_eq, first_is, first_nowhere}
use Rattle.std.specs.Prelude.{None, Some}
use Rattle.queue.specs.Rooms.{room_code}

-- no room before room m passes
abbrev pub PassedTo : (ℕ → Bool) → ℕ → Type 0
PassedTo p m = (k : ℕ) → k < m → p k ≡ false

module _ (held : ℕ) (p : ℕ → Bool) (m : ℕ) where
  -- nor does m, by what the code found
  pub passed_more : (b : Bool) → b ≡ p m → b ≡ false → PassedTo p m → PassedTo p (m + 1)
  passed_more b e fails before k l = by_eq k m (λ q. ap p q ∙ sym e ∙ fails) (λ q. before k (omega arith))

  -- room m does
  pub found_here : (b : Bool) → b ≡ p m → b ≡ true → m < held → PassedTo p m → Some m ≡ room_code (first held p)
  found_here b e passes l before = sym (ap room_code (first_is held p m l (sym e ∙ passes) before))

  -- no room does
  pub found_nowhere : held ≤ m → PassedTo p m → None ≡ room_code (first held p)
  found_nowhere g before = sym (ap room_code (first_nowhere held p (λ k h. before k (omega arith))))
