-- ROOM ON THE LINES once the head of one is taken, for what the handling of it puts there.
use mathlib.Core.Path.{◌≡◌}
use mathlib.Core.Bool.{Bool}
use mathlib.Core.List.{List}
use Prim.Native.Nat.{ℕ, ◌+◌, ◌*◌, ◌≤◌, ◌<◌}
use native.Mathlib.Omega.{arith}
use Rattle.protocol.specs.Folds.{sum}
use Rattle.protocol.specs.Floor.{Floor, Record, behead, put, on_the_lines, limits_of}
use Rattle.protocol.specs.Events.{Event}
use Rattle.protocol.specs.Form.{bit}
use Rattle.protocol.specs.Step.{step}
use Rattle.lines.specs.Lines.{used}
use Rattle.lines.specs.Words.{capacity}
use Rattle.lines.specs.Post.{Popped}
use Rattle.view.specs.View.{Lent, floor_in}
use Rattle.view.proofs.Room.{put_counts}
use Rattle.view.proofs.Standing.{Standing, fits_after, used_popped}

module _ (L : Lent) (X : Standing L) (W₁ : List ℕ) (i j : ℕ) (li : i < 16) (lj : j < 16) (popped : Popped L.lines W₁ (i * 16 + j)) where
  abbrev F : Floor
  F = floor_in L

  pub room_popped : (e : Event) (on : ℕ → ℕ → Bool) (r : Record) → (step (limits_of L.product) F e).stations ≡ F.stations → (step (limits_of L.product) F e).lines ≡ put on r (behead i j F.lines)
      → used W₁ + sum F.stations (λ a. sum F.stations (λ b. bit (on a b))) ≤ capacity W₁
  room_popped e on r same after =
      let bound : on_the_lines F.stations (put on r (behead i j F.lines)) ≤ capacity L.lines = rw after at (fits_after L X e same) in
      let counts = put_counts F.stations on r (behead i j F.lines) in
      let a = used_popped L X W₁ i j li lj popped in
      let d = popped.room in
      omega arith
