-- What the public functions leave: the pool's words at entry are l, at exit l'.
use Rattle.std.specs.Prelude.{◌≡◌, true, cond, List, [], ◌∷◌, ◌++◌, ℕ, suc, ◌<◌, eqb, length, drop}
use Rattle.protocol.specs.Handoff.{entry_of}
use Rattle.lines.specs.declared.Record.{Record}
use Rattle.lines.specs.Words.{line_count, capacity}
use Rattle.lines.specs.Lines.{records_on, used, registers_in}
use Rattle.lines.specs.Form.{form}

-- the registers carry the rows that they carried
abbrev pub SameRegisters : List ℕ → List ℕ → Type 0
SameRegisters l l' = registers_in l' ≡ registers_in l

-- the record r has joined line k at its end
pub record Pushed (l l' : List ℕ) (k : ℕ) (r : Record) : Type 0 where
  pub formed : form l' ≡ true
  pub line : records_on l' k ≡ records_on l k ++ (r ∷ [])
  pub others : (j : ℕ) → j < line_count → (j ≡ k → ⊥) → records_on l' j ≡ records_on l j
  pub registers : SameRegisters l l'
  pub more : used l' ≡ suc (used l)
  pub room : capacity l' ≡ capacity l
  pub words : length l' ≡ length l

-- the head of line k is gone
pub record Popped (l l' : List ℕ) (k : ℕ) : Type 0 where
  pub formed : form l' ≡ true
  pub line : records_on l' k ≡ drop 1 (records_on l k)
  pub others : (j : ℕ) → j < line_count → (j ≡ k → ⊥) → records_on l' j ≡ records_on l j
  pub registers : SameRegisters l l'
  pub fewer : suc (used l') ≡ used l
  pub room : capacity l' ≡ capacity l
  pub words : length l' ≡ length l

-- no line has a record
pub record Cleared (l l' : List ℕ) : Type 0 where
  pub formed : form l' ≡ true
  pub empty : (k : ℕ) → k < line_count → records_on l' k ≡ []
  pub none : used l' ≡ 0
  pub room : capacity l' ≡ capacity l
  pub words : length l' ≡ length l

-- the register of cart c carries that row, and no line has changed
pub record Carried (l l' : List ℕ) (c : ℕ) (row : List ℕ) : Type 0 where
  pub formed : form l' ≡ true
  pub lines : (k : ℕ) → k < line_count → records_on l' k ≡ records_on l k
  pub registers : registers_in l' ≡ (λ d s. cond (eqb d c) (entry_of row s) (registers_in l d s))
  pub same : used l' ≡ used l
  pub room : capacity l' ≡ capacity l
  pub words : length l' ≡ length l
