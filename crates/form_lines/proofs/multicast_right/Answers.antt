-- `form_lines::multicast_right` meets its contract.
use Rattle.form_lines.proofs.CodeLaws.{slot_room}
use Rattle.form_lines.proofs.multicast_right.Goals as goal

pub waiting_of-requires : goal.waiting_of-requires
waiting_of-requires c = slot_room c.args.messages.now c.requires.0 c.args.m c.args.i c.args.number c.in_room.result c.in_room.ensures c.if-in_room.true
