-- `store::copy_text` meets its contract.
use mathlib.Core.Path.{refl, sym, ap, ◌∙◌}
use mathlib.Core.List.{List, ◌++◌}
use native.Mathlib.Omega.{arith}
use Prim.Native.Nat.{ℕ}
use lib.ListN.{length, drop}
use Rattle.messages.specs.View.{rooms_in}
use Rattle.store.proofs.TextLaws.{no_text, short_read, long_read, copied_text}
use Rattle.store.proofs.copy_text.Goals as goal

pub returns-then-waiting_of-eq0 : goal.returns-then-waiting_of-eq0
returns-then-waiting_of-eq0 c =
    let a = c.args in
    let free = no_text a.texts.now a.store.now (rooms_in a.messages.now) a.m (sym c.waiting_of.ensures ∙ c.if-waiting_of-eq0.true) in
    record {
      buffer_after = sym (ap (λ (l : List ℕ). l ++ drop (length l) a.buffer.now) free);
      buffer_len_unchanged = refl;
    }

pub returns-then-n-le-TEXT : goal.returns-then-n-le-TEXT
returns-then-n-le-TEXT c =
    let a = c.args in
    record {
      buffer_after = c.copy.ensures.front ∙ copied_text _ _ _ (short_read a.texts.now a.store.now (rooms_in a.messages.now) a.m _ _ c.waiting_of.ensures c.if-waiting_of-eq0.false c.length_of-n.ensures _ (omega arith) c.part.ensures);
      buffer_len_unchanged = omega arith;
    }

pub returns : goal.returns
returns c =
    let a = c.args in
    record {
      buffer_after = c.copy-2.ensures.front ∙ copied_text _ _ _ (long_read a.texts.now a.store.now (rooms_in a.messages.now) a.m _ _ c.waiting_of.ensures c.if-waiting_of-eq0.false c.length_of-n.ensures _ (omega arith) _ c.offset_of-offset.ensures c.part-2.ensures);
      buffer_len_unchanged = omega arith;
    }
