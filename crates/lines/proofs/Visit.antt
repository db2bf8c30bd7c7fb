-- Visiting the records of a line, for callers: `length_of` rows from `head_of` on, each followed by its `next_of`.
use mathlib.Core.Path.{◌≡◌, refl, ap}
use mathlib.Core.List.{List, [], ◌∷◌, map}
use Prim.Native.Nat.{ℕ, suc, ◌-◌, ◌<◌}
use native.Mathlib.Omega.{arith}
use Rattle.lines.specs.Words.{head_of, length_of, next_of}
use Rattle.lines.specs.Lines.{rows_of, record_of, records_on, records_from}
use Rattle.lines.proofs.Chains.{chain_none, chain_head}

pub line_from : (l : List ℕ) (k : ℕ) → records_on l k ≡ records_from l (head_of l k) (length_of l k)
unfolding records_on rows_of records_from
line_from l k = refl

pub from_none : (l : List ℕ) (x : ℕ) → records_from l x 0 ≡ []
unfolding records_from
from_none l x = ap (map (record_of l)) (chain_none (next_of l) x)

pub from_some : (l : List ℕ) (x n : ℕ) → 0 < n → records_from l x n ≡ record_of l x ∷ records_from l (next_of l x) (n - 1)
unfolding records_from
from_some l x n h =
    ap (map (record_of l)) (chain_head (next_of l) x (n - 1) n less)
  where
    less : n ≡ suc (n - 1)
    less = omega arith
