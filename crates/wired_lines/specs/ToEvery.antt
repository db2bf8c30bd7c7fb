-- WHAT A RECORD TO EVERY STATION LEAVES: the lines' words were l and are l'.
use Rattle.std.specs.Prelude.{◌≡◌, true, List, [], ◌∷◌, ◌++◌, ℕ, ◌+◌, ◌*◌, ◌<◌, length}
use Rattle.lines.specs.declared.Record.{Record}
use Rattle.lines.specs.Words.{line_count, capacity}
use Rattle.lines.specs.Lines.{records_on, used}
use Rattle.lines.specs.Form.{form}
use Rattle.lines.specs.Post.{SameRegisters}

-- the record r has joined the line from s to each of the first n stations at its end, and no other
pub record PushedToEvery (l l' : List ℕ) (s n : ℕ) (r : Record) : Type 0 where
  pub formed : form l' ≡ true
  pub line : (j : ℕ) → j < n → records_on l' (s * 16 + j) ≡ records_on l (s * 16 + j) ++ (r ∷ [])
  pub others : (k : ℕ) → k < line_count → ((j : ℕ) → j < n → k ≡ s * 16 + j → ⊥) → records_on l' k ≡ records_on l k
  pub registers : SameRegisters l l'
  pub more : used l' ≡ used l + n
  pub room : capacity l' ≡ capacity l
  pub words : length l' ≡ length l
