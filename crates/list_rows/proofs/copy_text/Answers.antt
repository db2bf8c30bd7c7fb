-- `list_rows::copy_text` meets its contract.
use lib.ListN.{length}
use Rattle.list_rows.proofs.PutLaws.{buffer_length}
use mathlib.Core.Path.{refl, ap, ◌∙◌}
use native.Mathlib.Omega.{arith}
use Rattle.list_rows.proofs.TextLaws.{text_copied}
use Rattle.list_rows.proofs.copy_text.Goals as goal

pub returns : goal.returns
returns c =
    let a = c.args in
    let copied = c.copy.ensures.front ∙ text_copied a.octets.now a.buffer.now a.row a.size _ (omega arith) (omega arith) refl in
    record {
      buffer_after = copied;
      buffer_len_unchanged = ap length copied ∙ buffer_length a.octets.now a.buffer.now a.row a.size (omega arith) (omega arith) (omega arith);
    }
