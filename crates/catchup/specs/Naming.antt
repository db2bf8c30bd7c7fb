-- WHICH COPIES AT A STATION NAME A CART.
use Rattle.std.specs.Prelude.{◌≡◌, Option, Some, None, true, false, cond, ℕ, ◌<◌}
use Rattle.protocol.specs.CartSets.{has}
use Rattle.ids.specs.declared.Station.{Station}
use Rattle.stations.specs.View.{Stations}
use Rattle.messages.specs.View.{Rooms}

-- no copy at t names cart c but in rooms of the set, which are below n
pub record Covers (n : ℕ) (S : Stations) (t c set : ℕ) : Type 0 where
  pub inside : (m : ℕ) → has set m ≡ true → m < n
  pub others : (m : ℕ) → has set m ≡ false → has (S.copy m t) c ≡ false

-- whose next number the message in room m is about at t, for cart c: its initiator's where the copy names the cart, and else nobody's
abbrev pub named_by : Stations → Rooms → ℕ → ℕ → ℕ → Option Station
named_by S R t c m = cond (has (S.copy m t) c) (Some (record { 0 = R.initiator m })) None
