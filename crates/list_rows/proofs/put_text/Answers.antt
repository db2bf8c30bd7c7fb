-- `list_rows::put_text` meets its contract.
use mathlib.Core.Path.{refl, ap, ◌∙◌}
use Prim.Native.Nat.{◌+◌, ◌*◌}
use native.Mathlib.Omega.{arith}
use borrow.Rule.Slice.PartMut.{mid_len}
use Rattle.protocol.specs.Folds.{update}
use Rattle.list_rows.specs.Rows.{text_room, part_in}
use Rattle.list_rows.proofs.TextLaws.{part_put, text_before}
use Rattle.list_rows.proofs.put_text.Goals as goal

pub returns : goal.returns
returns c =
    let a = c.args in
    let part = c.copy.new.to in
    let middle = mid_len (a.row * text_room) (a.row * text_room + text_room) a.octets.now (omega arith) in
    let whole = text_before a.octets.now a.text.now part a.row (a.row * text_room + text_room) refl c.copy.ensures.front in
    record {
      octets_after = part_put a.octets.now part a.row (a.row * text_room + text_room) (omega arith) refl (omega arith) (omega arith) ∙ ap (update (part_in a.octets.now) a.row) whole;
      octets_len_unchanged = omega arith;
    }
