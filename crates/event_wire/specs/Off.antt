-- THE HEAD RECORD IS OFF ITS LINE, and waits to be handled.
use Rattle.std.specs.Prelude.{◌≡◌, true, List, ◌∷◌, ℕ, ◌+◌, ◌*◌, ◌<◌, drop}
use Rattle.protocol.specs.Floor.{Product, limits_of}
use Rattle.protocol.specs.Form.{passes_form}
use Rattle.stations.specs.View.{head_in}
use Rattle.lines.specs.declared.Record.{Record}
use Rattle.lines.specs.Lines.{records_on}
use Rattle.lines.specs.Post.{Popped}
use Rattle.view.specs.View.{lent, floor_in}

-- the floor S, C, M, W, T, O passes the form rule of that product, and of its line from station i to j only the head is gone, in W₁: it was `said`
pub record TakenOff (P : Product) (S C M W W₁ T O : List ℕ) (i j : ℕ) (said : Record) : Type 0 where
  pub passes : passes_form (limits_of P) (floor_in (lent P S C M W T O)) ≡ true
  pub from : i < (head_in S).stations
  pub to : j < (head_in S).stations
  pub top : records_on W (i * 16 + j) ≡ said ∷ drop 1 (records_on W (i * 16 + j))
  pub popped : Popped W W₁ (i * 16 + j)

-- so it is for some product, lines, texts and store
pub record IsOff (S C M W₁ : List ℕ) (i j : ℕ) (said : Record) : Type 0 where
  pub product : Product
  pub lines : List ℕ
  pub texts : List ℕ
  pub store : List ℕ
  pub taken : TakenOff product S C M lines W₁ texts store i j said
