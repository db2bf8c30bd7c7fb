-- `form_groups::grouped_carts` meets its contract. The invariant: the members of the groups passed are collected.
use Prim.Native.Nat.{◌≤◌}
use Rattle.protocol.specs.Groups.{group_count}
use Rattle.stations.specs.View.{head_in}
use Rattle.form_tables.specs.Parts.{Collects}
use Rattle.form_groups.proofs.grouped_carts.Given as goal

abbrev pub invariant-loop-group : goal.invariant-loop-group
invariant-loop-group l = (l.group ≤ group_count) × Collects (head_in l.stations).groups l.group l.grouped
