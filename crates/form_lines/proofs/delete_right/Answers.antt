-- `form_lines::delete_right` meets its contract.
use Rattle.form_lines.proofs.CodeLaws.{slot_room}
use Rattle.form_lines.proofs.delete_right.Goals as goal

pub waiting_of-requires : goal.waiting_of-requires
waiting_of-requires c = slot_room c.args.messages.now c.requires.0 c.args.m c.args.i c.args.number c.in_room.result c.in_room.ensures c.if-in_room.true

pub acked_of-requires : goal.acked_of-requires
acked_of-requires c = slot_room c.args.messages.now c.requires.0 c.args.m c.args.i c.args.number c.in_room.result c.in_room.ensures c.if-in_room.true

pub named_of-requires : goal.named_of-requires
named_of-requires c = slot_room c.args.messages.now c.requires.0 c.args.m c.args.i c.args.number c.in_room.result c.in_room.ensures c.if-in_room.true
