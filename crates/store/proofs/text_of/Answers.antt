-- `store::text_of` meets its contract.
use mathlib.Core.Path.{sym, ◌∙◌}
use native.Mathlib.Omega.{arith}
use Rattle.messages.specs.View.{rooms_in}
use Rattle.store.proofs.TextLaws.{no_text, short_read, long_read}
use Rattle.store.proofs.text_of.Goals as goal

pub returns-then-waiting_of-eq0 : goal.returns-then-waiting_of-eq0
returns-then-waiting_of-eq0 c =
    let a = c.args in
    c.part.ensures ∙ sym (no_text a.texts.now a.store.now (rooms_in a.messages.now) a.m (sym c.waiting_of.ensures ∙ c.if-waiting_of-eq0.true))

pub returns-then-n-le-TEXT : goal.returns-then-n-le-TEXT
returns-then-n-le-TEXT c =
    let a = c.args in
    short_read a.texts.now a.store.now (rooms_in a.messages.now) a.m _ _ c.waiting_of.ensures c.if-waiting_of-eq0.false c.length_of-n.ensures _ (omega arith) c.part-then-n-le-TEXT.ensures

pub returns : goal.returns
returns c =
    let a = c.args in
    long_read a.texts.now a.store.now (rooms_in a.messages.now) a.m _ _ c.waiting_of.ensures c.if-waiting_of-eq0.false c.length_of-n.ensures _ (omega arith) _ c.offset_of.ensures c.part-2.ensures
