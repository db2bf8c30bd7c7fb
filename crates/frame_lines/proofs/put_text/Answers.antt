-- `frame_lines::put_text` meets its contract.
use native.Mathlib.Omega.{arith}
use lib.ListN.{length-set}
use Rattle.frame_lines.proofs.Fields.{text_empty, text_some}
use Rattle.frame_lines.proofs.put_text.Goals as goal

pub bounds-out-at-then-size-eq0 : goal.bounds-out-at-then-size-eq0
bounds-out-at-then-size-eq0 c = simp length-set (omega arith)

pub returns-then-size-eq0 : goal.returns-then-size-eq0
returns-then-size-eq0 c = text_empty c.args.room.now c.args.out.now c.args.at c.args.size c.if-size-eq0.true (omega arith)

pub copy_digits-requires : goal.copy_digits-requires
copy_digits-requires c = simp length-set (omega arith, omega arith, omega arith)

pub returns : goal.returns
returns c =
    text_some c.args.room.now _ c.args.out.now _ c.args.at c.args.size c.if-size-eq0.false c.requires.2 c.requires.1 (omega arith)
    c.room_digits.ensures c.copy_digits.ensures
