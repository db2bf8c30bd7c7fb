-- `stations::leave_groups` meets its contract. The invariant: the cart is in none of the groups passed.
use mathlib.Core.Path.{◌≡◌}
use Prim.Native.Nat.{◌≤◌}
use lib.ListN.{length}
use Rattle.protocol.specs.Groups.{group_count}
use Rattle.stations.specs.View.{head_in, stations_in}
use Rattle.stations.proofs.GroupLaws.{left_to}
use Rattle.stations.proofs.leave_groups.Given as goal

abbrev pub invariant-loop-group : goal.invariant-loop-group
invariant-loop-group l =
    (l.group ≤ group_count)
    × (length l.stations ≡ length l.initial.stations)
    × (head_in l.stations ≡ left_to l.group (head_in l.initial.stations) l.cart.0)
    × (stations_in l.stations ≡ stations_in l.initial.stations)
