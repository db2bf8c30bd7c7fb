-- `wired_send::keep_long_message` meets its contract.
use native.Mathlib.Omega.{arith}
use lib.ListN.{length}
use Rattle.store.proofs.Room.{room_made}
use Rattle.wired_send.proofs.keep_long_message.Goals as goal

pub put_text-requires : goal.put_text-requires
put_text-requires c =
    let a = c.args in
    let can = c.requires.2 in
    let room = room_made a.held (length a.text.now) a.messages.now a.store.now _ _ _ can.laid can.whole can.free c.make_room-place.ensures in
    omega (arith, room.inside, room.full)

pub returns : goal.returns
returns c =
    let a = c.args in
    let t = c.put_text.ensures in
    let p = c.put_row.ensures in
    let made = c.make_room-place in
    record {
      messages = made.new.messages;
      store = made.new.store;
      place = made.result;
      made = made.ensures;
      put = t.store_after;
      rooms = p.messages_after;
      words = p.messages_len_unchanged;
    }
