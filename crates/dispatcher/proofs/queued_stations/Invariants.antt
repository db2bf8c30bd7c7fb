-- `dispatcher::queued_stations` meets its contract.
use Prim.Native.Nat.{◌≤◌}
use Rattle.dispatcher.proofs.QueueLaws.{FirstQueues}
use Rattle.dispatcher.proofs.queued_stations.Given as goal

-- the queues of the stations before t are looked at
abbrev pub invariant-loop-t : goal.invariant-loop-t
invariant-loop-t l = (l.t ≤ l.n) × FirstQueues l.stations l.queued l.t
