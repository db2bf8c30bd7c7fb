-- `messages::put_text` meets its contract.
use mathlib.Core.Path.{refl, ◌∙◌}
use Prim.Native.Nat.{◌+◌, ◌*◌}
use native.Mathlib.Omega.{arith}
use borrow.Rule.Slice.PartMut.{mid_len}
use borrow.Author.Rules.{rules}
use Rattle.messages.proofs.TextLaws.{text_put, texts_kept}
use Rattle.messages.proofs.put_text.Goals as goal

pub returns : goal.returns
returns c =
    let a = c.args in
    let part = c.copy.new.to in
    let g = c.texts-1.given in
    let same = g.0 ∙ mid_len (a.m * 32) (a.m * 32 + 32) a.texts.now (omega arith) in
    record {
      m_after = text_put a.texts.now part a.m (a.m * 32 + 32) (omega arith) refl same a.text.now _ c.copy.ensures.front;
      by_index = texts_kept a.texts.now part a.m (a.m * 32 + 32) (omega arith) refl same g.1;
      texts_len_unchanged = g.1;
    }
