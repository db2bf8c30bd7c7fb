-- A FLOOR THAT A RUN CAN GO ON WITH, by its product's numbers: events can go on with it, and it has one room at least, so that texts have a part.
use Rattle.std.specs.Prelude.{◌≡◌, true, false, ◌<◌}
use Rattle.protocol.specs.Floor.{Product, Floor}
use Rattle.products.specs.declared.Bounds.{Bounds}
use Rattle.products.specs.Numbers.{NumbersOf}
use Rattle.view.specs.View.{Lent}
use Rattle.event_answers.specs.Met.{Ready, ReadyWith}

abbrev pub CanRun : Bounds → (Product → Lent) → Type 0
CanRun bounds lent = (0 < bounds.held) × ReadyWith bounds lent

-- and what is left behind it is so for each product that has these numbers
abbrev pub ByEach : Bounds → (Product → Lent) → (Product → Lent) → (Lent → Lent → Type 0) → Type 0
ByEach bounds before after claim = (P : Product) → NumbersOf P bounds → Ready (before P) → claim (before P) (after P)

-- A FLOOR THAT A RUN BEGINS WITH: not started, and its lent parts have their lengths. Whatever else it says, a run from it prints the same
pub record Unstarted (F : Floor) : Type 0 where
  pub fresh : F.started ≡ false
  pub lengths : F.lengths_right ≡ true
