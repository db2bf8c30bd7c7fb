-- `event_carts::held_names` meets its contract. The invariant: what the messages in the rooms passed name is collected.
use Prim.Native.Nat.{◌≤◌}
use Rattle.messages.specs.View.{rooms_in}
use Rattle.queue.specs.Rooms.{room_count}
use Rattle.form_tables.specs.Parts.{Collects}
use Rattle.event_carts.specs.Named.{named_if_held}
use Rattle.event_carts.proofs.held_names.Given as goal

abbrev pub invariant-loop-m : goal.invariant-loop-m
invariant-loop-m l = Collects (named_if_held (rooms_in l.messages)) l.m l.names × (l.m ≤ room_count l.messages)
