-- `handoff::send_each` meets its contract.
use Rattle.handoff.proofs.ForwardLaws.{Sending}
use Rattle.handoff.proofs.send_each.Given as goal

-- the lists of the rooms that are not left have gone
abbrev pub invariant-loop-m : goal.invariant-loop-m
invariant-loop-m l = Sending l.initial.stations l.stations l.messages l.initial.lines l.lines l.station.0 l.among l.left l.sent

abbrev pub decreases-loop-m : goal.decreases-loop-m
decreases-loop-m l = l.left
