-- NAMED GROUPS OF CARTS: "She sends to the same carts each day: quantitation, screening, training."
use Rattle.std.specs.Prelude.{[], ℕ}
use Rattle.protocol.specs.Folds.{count, update}
use Rattle.protocol.specs.CartSets.{has}
use Rattle.protocol.specs.Floor.{Floor, set_groups}
use Rattle.protocol.specs.Events.{Event, start, enter, send, wire, radio, move, flag, group, send_group, send_long, retire, Done, done}

-- "Sixteen groups", of every caller
abbrev pub group_count : ℕ
group_count = 16

-- "number of members": how many carts of the floor are in a set
unfoldable pub members_of : Floor → ℕ → ℕ
members_of F set = count F.carts (has set)

-- "Kind 7 carries a group number .. and the set; an empty set undefines the group": group g has these members from now on, and nothing else changes.
-- "Kind 7 prints group and number of members"; "p = 0; w is 0 for kind 7"
unfoldable pub on_group : Floor → ℕ → ℕ → Done
on_group F g set = done (set_groups F (update F.groups g set)) 7 g (members_of F set) 0 0 0 []

-- "Kind 8 .. sends to the members as they are at that send": the event that a group send is on floor F, a send to the members that the group has
-- there; a long text is a text; every other event is itself. A group send does not say its members, and its answer does not either, so whatever is
-- built from events and answers ("set or members") is built from this
abbrev pub as_sent : Floor → Event → Event
as_sent F (start n k) = start n k
as_sent F (enter t c) = enter t c
as_sent F (send s set text) = send s set text
as_sent F (wire i j) = wire i j
as_sent F (radio t c buffer) = radio t c buffer
as_sent F (move c to) = move c to
as_sent F (flag c b) = flag c b
as_sent F (group g set) = group g set
as_sent F (send_group s g text) = send s (F.groups g) text
as_sent F (send_long s set text) = send s set text
as_sent F (retire c) = retire c
