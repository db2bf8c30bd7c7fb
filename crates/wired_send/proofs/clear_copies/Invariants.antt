-- `wired_send::clear_copies` meets its contract. The invariant: the stations passed have nothing of the message in room m.
use mathlib.Core.Path.{◌≡◌}
use Prim.Native.Nat.{◌≤◌}
use lib.ListN.{length}
use Rattle.stations.specs.View.{head_in, stations_in}
use Rattle.wired_send.proofs.CopyLaws.{cleared_stations}
use Rattle.wired_send.proofs.clear_copies.Given as goal

abbrev pub invariant-loop-t : goal.invariant-loop-t
invariant-loop-t l =
    (l.t ≤ l.rows)
    × (stations_in l.stations ≡ cleared_stations l.t (stations_in l.initial.stations) l.m)
    × (head_in l.stations ≡ head_in l.initial.stations)
    × (length l.stations ≡ length l.initial.stations)
