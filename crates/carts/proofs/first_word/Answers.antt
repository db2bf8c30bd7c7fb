-- `carts::first_word` meets its contract.
use Rattle.carts.proofs.TableLaws.{word_steady, word_not_steady}
use Rattle.carts.proofs.first_word.Goals as goal

pub returns-then-steady : goal.returns-then-steady
returns-then-steady c = let a = c.args in word_steady a.kind a.steady c.if-steady.true

pub returns-else-steady : goal.returns-else-steady
returns-else-steady c = let a = c.args in word_not_steady a.kind a.steady c.if-steady.false
