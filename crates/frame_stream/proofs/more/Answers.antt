-- `frame_stream::more` meets its contract.
use mathlib.Core.Path.{refl, ap}
use Rattle.frame_stream.specs.Feed.{state_number}
use Rattle.frame_stream.proofs.Feeds.{part_room, read_turn}
use borrow.Author.Rules.{rules}
use Rattle.frame_stream.proofs.more.Goals as goal

pub after_read-requires : goal.after_read-requires
after_read-requires g c =
    let k = c.keep-kept in
    let got = c.read-got in
    let asked = part_room c.args.input.now k.new.input c.args.f k.result c.requires.0 (ap state_number c.requires.1) c.requires.2 k.ensures.value.0 k.ensures.input_len_unchanged got.result.room got.ensures.room_value.0 in
    (asked.0, asked.1, got.ensures.room_value.1)

pub returns : goal.returns
returns g c =
    let a = c.args in
    let k = c.keep-kept in
    let got = c.read-got in
    let asked = part_room a.input.now k.new.input a.f k.result c.requires.0 (ap state_number c.requires.1) c.requires.2 k.ensures.value.0 k.ensures.input_len_unchanged got.result.room got.ensures.room_value.0 in
    let whole = read_turn a.input.now k.new.input _ a.f c.after_read.result got.result.brought k.result c.requires.0 (ap state_number c.requires.1) k.ensures.value.0 k.ensures.value.1 k.ensures.input_len_unchanged
    got.result.room (asked.0, asked.1, got.ensures.room_value.1) _ refl (search rules) c.after_read.ensures in
    record { inside = whole.0; input_len_unchanged = whole.1 }
