-- WHAT A FLAG LEAVES in the carts (C, then C'): cart c is told steady, or not.
use Rattle.std.specs.Prelude.{◌≡◌, Bool, true, List, ℕ, length}
use Rattle.protocol.specs.Folds.{update}
use Rattle.carts.specs.View.{carts_in, canonical_in, with_steady}

pub record Flagged (C C' : List ℕ) (c : ℕ) (steady : Bool) : Type 0 where
  pub carts : carts_in C' ≡ with_steady (carts_in C) c steady
  pub canonical : canonical_in C' ≡ update (canonical_in C) c true
  pub length : length C' ≡ length C
