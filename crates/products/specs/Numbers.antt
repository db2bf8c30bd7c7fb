-- A PRODUCT'S LIMITS AS THE RUNNING CODE HAS THEM: four numbers, handed on by value.
use Rattle.std.specs.Prelude.{◌≡◌, ◌≤◌}
use Rattle.protocol.specs.Floor.{Product}
use Rattle.products.specs.declared.Bounds.{Bounds}

-- no larger than rows and words have places for
pub record Fits (b : Bounds) : Type 0 where
  pub few_stations : b.stations ≤ 16
  pub few_carts : b.carts ≤ 64
  pub few_held : b.held ≤ 32
  pub low_last : b.last ≤ 4294967294

-- they are the limits of that product
pub record NumbersOf (P : Product) (b : Bounds) : Type 0 where
  pub stations_are : P.stations ≡ b.stations
  pub carts_are : P.carts ≡ b.carts
  pub held_is : P.held ≡ b.held
  pub last_is : P.last ≡ b.last
