-- `wired_send::free_room` meets its contract. The invariant: the rooms passed are taken.
use Rattle.wired_send.proofs.RoomLaws.{TakenTo}
use Rattle.wired_send.proofs.free_room.Given as goal

abbrev pub invariant-loop-m : goal.invariant-loop-m
invariant-loop-m l = TakenTo l.messages l.m
