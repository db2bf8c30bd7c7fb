-- WHICH LINES ARE NOT EMPTY, in seventeen words that are kept from step to step: the targets of each station, and the sources.
use Rattle.std.specs.Prelude.{◌≡◌, cond, not, List, ℕ, ◌^◌, ◌<◌, eqb, length, get_or, set}
use Rattle.protocol.specs.Folds.{is_empty}
use Rattle.protocol.specs.CartSets.{has, with, without, set_of}
use Rattle.protocol.specs.Floor.{Record}

-- for each station the set of those to which it has a record on a line, and the set of the stations that have one
pub record Busy : Type 0 where
  pub targets : List ℕ
  pub sources : ℕ

abbrev pub busy : List ℕ → ℕ → Busy
busy targets sources = record { targets = targets; sources = sources }

-- the stations to which the line from station i has a record
unfoldable pub busy_row : (ℕ → ℕ → List Record) → ℕ → ℕ
busy_row lines i = set_of 16 (λ j. not (is_empty (lines i j)))

-- the row of station i is right, and says whether the station is one of those that have a record on a line
pub record RowRight (lines : ℕ → ℕ → List Record) (b : Busy) (i : ℕ) : Type 0 where
  pub targets : get_or b.targets i 0 ≡ busy_row lines i
  pub source : has b.sources i ≡ not (eqb (busy_row lines i) 0)

-- sixteen rows, and no station beyond them
pub record Shaped (b : Busy) : Type 0 where
  pub size : length b.targets ≡ 16
  pub few : b.sources < 2 ^ 16

-- THE LINES OF A FLOOR that are not empty
pub record IsBusy (lines : ℕ → ℕ → List Record) (b : Busy) : Type 0 where
  pub shaped : Shaped b
  pub rows : (i : ℕ) → i < 16 → RowRight lines b i

-- a set with station i in it exactly if what the station has is not empty
abbrev pub with_if_any : ℕ → ℕ → ℕ → ℕ
with_if_any set i word = cond (eqb word 0) (without set i) (with set i)

-- with another row of station i
abbrev pub busy_with : Busy → ℕ → ℕ → Busy
busy_with b i row = busy (set b.targets i row) (with_if_any b.sources i row)

-- WHAT A STEP CHANGES, by the lines that it left: a record was taken off the line from i to j
unfoldable pub taken_off : (ℕ → ℕ → List Record) → Busy → ℕ → ℕ → Busy
taken_off lines b i j = cond (is_empty (lines i j)) (busy_with b i (without (get_or b.targets i 0) j)) b

-- so many were put on lines from station t
unfoldable pub renewed : (ℕ → ℕ → List Record) → Busy → ℕ → ℕ → Busy
renewed lines b t records = cond (eqb records 0) b (busy_with b t (busy_row lines t))
