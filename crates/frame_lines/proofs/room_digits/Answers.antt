use Prim.Native.Nat.{◌+◌, ◌*◌}
use native.Mathlib.Omega.{arith}
use lib.ListN.{length-set}
use Rattle.frame_lines.specs.Lines.{text_digits}
use Rattle.frame_lines.proofs.Numbers.{hex_none, hex_stored, hex_done}
use Rattle.frame_lines.proofs.room_digits.Goals as goal

pub loop-i-init : goal.loop-i-init
loop-i-init c = let a = c.args in (omega arith, hex_none text_digits a.room.now a.digits.now 0)

pub bounds-room-i : goal.bounds-room-i
bounds-room-i c = omega arith

pub digit-requires : goal.digit-requires
digit-requires c = omega arith

pub overflow_mul-digits : goal.overflow_mul-digits
overflow_mul-digits c = omega arith

pub bounds-digits-i : goal.bounds-digits-i
bounds-digits-i c = let z = c.loop-i.invariant.1.kept in omega arith

pub digit-requires-in-loop-i : goal.digit-requires-in-loop-i
digit-requires-in-loop-i c = omega arith

pub overflow_mul-digits-in-loop-i : goal.overflow_mul-digits-in-loop-i
overflow_mul-digits-in-loop-i c = omega arith

pub overflow_add-digits : goal.overflow_add-digits
overflow_add-digits c = omega arith

pub bounds-digits-i-in-loop-i : goal.bounds-digits-i-in-loop-i
bounds-digits-i-in-loop-i c = simp length-set (let z = c.loop-i.invariant.1.kept in omega arith)

pub loop-i-preserved : goal.loop-i-preserved
loop-i-preserved c =
    let a = c.args in
    let v = c.loop-i in
    let more =
    hex_stored text_digits a.room.now a.digits.now v.digits 0 v.i (2 * v.i) (2 * (v.i + 1)) c.from-x.result c.digit.result c.digit-in-loop-i.result
    (omega arith) (omega arith) (omega arith) (omega arith) c.from-x.ensures c.digit.ensures c.digit-in-loop-i.ensures v.invariant.1 in
    (omega arith, more)

pub shape_of-digits : goal.shape_of-digits
shape_of-digits c = c.loop-i.invariant.1.kept

pub returns : goal.returns
returns c =
    let a = c.args in
    let v = c.loop-i in
    hex_done a.room.now a.digits.now v.digits v.i (omega arith) (omega arith) (omega arith) v.invariant.1
