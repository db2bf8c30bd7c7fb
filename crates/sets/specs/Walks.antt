-- A WALK OVER A SET: what each step of it gives.
use Rattle.std.specs.Prelude.{◌≡◌, Option, None, Some, ℕ, ◌<◌}
use Rattle.std.proofs.Math.Option.{some}
use Rattle.protocol.specs.CartSets.{without}
use Rattle.sets.specs.Masks.{least}
use Rattle.sets.specs.declared.Members.{Members}

-- a step from `before` gives the least member that is left, and leaves the others; where none is left it gives nothing
abbrev pub GivesLeast : Members → Option ℕ → Members → Type 0
GivesLeast before None after = (before.left ≡ 0) × (after.left ≡ 0)
GivesLeast before (Some m) after = (0 < before.left) × (least 64 before.left ≡ some m) × (after.left ≡ without before.left m)
