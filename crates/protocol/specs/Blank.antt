-- Floors with nothing beyond the limits. A floor's columns are functions of any number; lent tables of the right lengths have so many rows
-- and so wide, and what is read beyond them is nothing.
use Rattle.std.specs.Prelude.{◌≡◌, List, [], ℕ, ◌<◌, ◌≤◌}
use Rattle.protocol.specs.Floor.{Limits, outside, Record, Floor}

-- a table that is d beyond n rows of k
pub record TableEnds (A : Type 0) (n k : ℕ) (d : A) (f : ℕ → ℕ → A) : Type 0 where
  pub below : (i j : ℕ) → n ≤ i → f i j ≡ d
  pub right : (i j : ℕ) → k ≤ j → f i j ≡ d

-- nothing beyond the limits
pub record BlankBeyond (M : Limits) (F : Floor) : Type 0 where
  pub sent : (s : ℕ) → M.stations ≤ s → F.sent s ≡ 0
  pub expected : (t s : ℕ) → t < F.stations → M.columns ≤ s → F.expected t s ≡ 0
  pub place : (c : ℕ) → M.carts ≤ c → F.place c ≡ outside
  pub next : TableEnds ℕ M.carts M.columns 0 F.next
  pub queue : TableEnds ℕ M.held M.stations 0 F.queue
  pub lines : TableEnds (List Record) M.columns M.columns [] F.lines
