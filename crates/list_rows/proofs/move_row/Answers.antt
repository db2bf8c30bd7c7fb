-- `list_rows::move_row` meets its contract.
use mathlib.Core.Path.{sym, ap, ◌∙◌}
use Prim.Native.Nat.{◌≤◌}
use native.Mathlib.Omega.{arith}
use lib.Seq.{length-take-le}
use Rattle.protocol.specs.Folds.{update}
use Rattle.list_rows.specs.Rows.{text_room, rows_in}
use Rattle.list_rows.proofs.PutLaws.{text_read, same_row}
use borrow.Author.Rules.{rules}
use Rattle.list_rows.proofs.move_row.Goals as goal

pub slice_bounds-put_row-end : goal.slice_bounds-put_row-end
slice_bounds-put_row-end c =
    let size = c.size_at-size in
    sym (length-take-le size.result c.copy_text.new.buffer (omega (arith, c.requires.3, size.ensures c.args.octets.now, c.copy_text.ensures.buffer_len_unchanged)))

pub returns : goal.returns
returns c =
    let a = c.args in
    let size = c.size_at-size in
    let small : size.result ≤ text_room = omega (arith, c.requires, size.ensures a.octets.now) in
    let text = text_read a.sends.now a.octets.now _ _ a.from size.result (omega arith) (size.ensures a.octets.now) small c.copy_text.ensures.buffer_after in
    let same = same_row a.sends.now a.octets.now _ a.from c.message_at-message.result (omega arith) (omega (arith, c.requires)) (c.message_at-message.ensures a.octets.now) text in
    record {
      octets_after = c.put_row.ensures.octets_after ∙ ap (update (rows_in a.sends.now a.octets.now) a.to) same;
      sends_len_unchanged = (search rules, search rules);
    }
