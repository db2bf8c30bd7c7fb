-- Numbers that fit are those of a product.
use mathlib.Core.Path.{refl}
use Rattle.protocol.specs.Floor.{Product}
use Rattle.products.specs.declared.Bounds.{Bounds}
use Rattle.products.specs.Numbers.{Fits, NumbersOf}

abbrev pub product_of : (b : Bounds) → Fits b → Product
product_of b f =
    record {
      stations = b.stations;
      carts = b.carts;
      held = b.held;
      last = b.last;
      stations_fit = f.few_stations;
      carts_fit = f.few_carts;
      held_fit = f.few_held;
      last_fit = f.low_last;
    }

pub its_numbers : (b : Bounds) (f : Fits b) → NumbersOf (product_of b f) b
its_numbers b f = record { stations_are = refl; carts_are = refl; held_is = refl; last_is = refl }
