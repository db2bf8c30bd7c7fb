-- Questions on sets of which the protocol has no name of its own, each answered by `has` over all below n.
use Rattle.std.specs.Prelude.{Bool, not, ◌&&◌, ◌||◌, ℕ}
use Rattle.std.proofs.Math.Option.{Option}
use Rattle.protocol.specs.Folds.{every, first, count}
use Rattle.protocol.specs.CartSets.{has}

-- is every one below n that is in x also in y
unfoldable pub within : ℕ → ℕ → ℕ → Bool
within n x y = every n (λ c. not (has x c) || has y c)

-- is none below n in both x and y
unfoldable pub disjoint : ℕ → ℕ → ℕ → Bool
disjoint n x y = every n (λ c. not (has x c && has y c))

-- the least below n that is in x
unfoldable pub least : ℕ → ℕ → Option ℕ
least n x = first n (has x)

-- how many below n are in x
unfoldable pub size : ℕ → ℕ → ℕ
size n x = count n (has x)
