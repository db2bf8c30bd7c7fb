-- WHAT A RETIREMENT LEAVES at the stations (S, then S') and in the carts (C, then C').
use Rattle.std.specs.Prelude.{◌≡◌, true, List, ℕ, length}
use Rattle.protocol.specs.Folds.{update}
use Rattle.protocol.specs.CartSets.{without}
use Rattle.stations.specs.View.{head_in, stations_in, with_local, groups_without}
use Rattle.carts.specs.View.{carts_in, canonical_in, with_outside}

-- cart c, which was at station t, is outside with all next numbers 0, off the local list there, and in no group
pub record Retired (S S' C C' : List ℕ) (c t : ℕ) : Type 0 where
  pub stations : stations_in S' ≡ with_local (stations_in S) t (without ((stations_in S).local t) c)
  pub head : head_in S' ≡ groups_without (head_in S) c
  pub table : length S' ≡ length S
  pub carts : carts_in C' ≡ with_outside (carts_in C) c
  pub canonical : canonical_in C' ≡ update (canonical_in C) c true
  pub length : length C' ≡ length C
