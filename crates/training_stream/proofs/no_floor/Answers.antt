-- `training_stream::no_floor` meets its contract.
use Rattle.protocol.specs.Floor.{whole_floor}
use Rattle.frame_stream.proofs.Fresh.{fresh, fresh_ready, floor_lengths}
use Rattle.training_stream.proofs.no_floor.Goals as goal

pub returns : goal.returns
returns c =
    let s = c.no_stations in
    let k = c.no_carts in
    let m = c.no_messages in
    let w = c.no_lines in
    let t = c.no_texts in
    let o = c.no_store in
    let long = floor_lengths s.result k.result m.result w.result t.result o.result s.ensures.0 k.ensures m.ensures w.ensures t.ensures o.ensures in
    (fresh_ready whole_floor s.result k.result m.result w.result t.result o.result s.ensures.1 long, fresh whole_floor s.result k.result m.result w.result t.result o.result s.ensures.1 long)
