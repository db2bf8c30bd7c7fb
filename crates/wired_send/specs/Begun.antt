-- WHAT A START LEAVES in the stations (S, then S'), the carts (C, then C'), the messages (M, then M') and on the lines (W, then W').
use Rattle.std.specs.Prelude.{◌≡◌, true, List, ℕ, length}
use Rattle.stations.specs.View.{head, no_groups, head_in, stations_in, no_stations}
use Rattle.carts.specs.View.{carts_in, canonical_in, no_carts}
use Rattle.messages.specs.View.{rooms_in, no_rooms}
use Rattle.lines.specs.Post.{Cleared}

-- the mark of a started floor, n stations and k carts; nothing else
pub record Begun (S S' C C' M M' W W' : List ℕ) (n k : ℕ) : Type 0 where
  pub top : head_in S' ≡ head 1 n k no_groups
  pub stations : stations_in S' ≡ no_stations
  pub station_words : length S' ≡ length S
  pub carts : carts_in C' ≡ no_carts
  pub canonical : canonical_in C' ≡ (λ c. true)
  pub cart_words : length C' ≡ length C
  pub rooms : rooms_in M' ≡ no_rooms
  pub room_words : length M' ≡ length M
  pub lines : Cleared W W'
