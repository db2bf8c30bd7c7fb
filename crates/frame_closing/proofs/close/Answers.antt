-- `frame_closing::close` meets its contract.
use native.Mathlib.Omega.{arith}
use Rattle.protocol.specs.Floor.{whole_floor}
use Rattle.frame_stream.proofs.Fresh.{fresh, fresh_ready, floor_lengths}
use Rattle.frame_closing.proofs.Closings.{closed}
use Rattle.frame_closing.proofs.close.Goals as goal

pub run_over-run-requires : goal.run_over-run-requires
run_over-run-requires g c =
    let s = c.no_stations-stations in
    let k = c.no_carts-carts in
    let m = c.no_messages-messages in
    let w = c.no_lines-lines in
    let t = c.no_texts-texts in
    let o = c.no_store-store in
    let long = floor_lengths s.result k.result m.result w.result t.result o.result s.ensures.0 k.ensures m.ensures w.ensures t.ensures o.ensures in
    let numbers = c.floor_bounds.ensures.1 in
    (omega (arith, numbers.held_is), (whole_floor, numbers, fresh_ready whole_floor _ _ _ _ _ _ s.ensures.1 long))

pub hand_line-handed-requires : goal.hand_line-handed-requires
hand_line-handed-requires g c =
    let s = c.no_stations-stations in
    let k = c.no_carts-carts in
    let m = c.no_messages-messages in
    let w = c.no_lines-lines in
    let t = c.no_texts-texts in
    let o = c.no_store-store in
    let long = floor_lengths s.result k.result m.result w.result t.result o.result s.ensures.0 k.ensures m.ensures w.ensures t.ensures o.ensures in
    let numbers = c.floor_bounds.ensures.1 in
    ((c.run_over-run.ensures whole_floor numbers (fresh_ready whole_floor _ _ _ _ _ _ s.ensures.1 long)).ready, omega arith)

pub returns : goal.returns
returns g c =
    let s = c.no_stations-stations in
    let k = c.no_carts-carts in
    let m = c.no_messages-messages in
    let w = c.no_lines-lines in
    let t = c.no_texts-texts in
    let o = c.no_store-store in
    let long = floor_lengths s.result k.result m.result w.result t.result o.result s.ensures.0 k.ensures m.ensures w.ensures t.ensures o.ensures in
    let numbers = c.floor_bounds.ensures.1 in
    let r = c.run_over-run in
    let h = c.hand_line-handed in
    closed _ _ _ _ _ _ _ r.result _ h.result _ (fresh whole_floor _ _ _ _ _ _ s.ensures.1 long) (r.ensures whole_floor numbers (fresh_ready whole_floor _ _ _ _ _ _ s.ensures.1 long)) h.ensures c.after_line.ensures
