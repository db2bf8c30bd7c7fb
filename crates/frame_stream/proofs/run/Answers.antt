-- `frame_stream::run` meets its contract.
use native.Mathlib.Omega.{arith}
use Rattle.protocol.specs.Floor.{whole_floor}
use Rattle.frame_stream.proofs.Fresh.{fresh_ready, streamed, floor_lengths}
use Rattle.frame_stream.proofs.run.Goals as goal

pub run_over-requires : goal.run_over-requires
run_over-requires g c =
    let s = c.no_stations-stations in
    let k = c.no_carts-carts in
    let m = c.no_messages-messages in
    let w = c.no_lines-lines in
    let t = c.no_texts-texts in
    let o = c.no_store-store in
    let long = floor_lengths s.result k.result m.result w.result t.result o.result s.ensures.0 k.ensures m.ensures w.ensures t.ensures o.ensures in
    let numbers = c.floor_bounds.ensures.1 in
    (omega (arith, numbers.held_is), (whole_floor, numbers, fresh_ready whole_floor _ _ _ _ _ _ s.ensures.1 long))

pub returns : goal.returns
returns g c =
    let s = c.no_stations-stations in
    let k = c.no_carts-carts in
    let m = c.no_messages-messages in
    let w = c.no_lines-lines in
    let t = c.no_texts-texts in
    let o = c.no_store-store in
    let long = floor_lengths s.result k.result m.result w.result t.result o.result s.ensures.0 k.ensures m.ensures w.ensures t.ensures o.ensures in
    let numbers = c.floor_bounds.ensures.1 in
    let r = c.run_over in
    streamed whole_floor _ _ _ _ _ _ s.ensures.1 long r.result (r.ensures whole_floor numbers (fresh_ready whole_floor _ _ _ _ _ _ s.ensures.1 long)).finished
