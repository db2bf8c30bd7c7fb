-- `dispatcher::with_if_any` meets its contract.
use Rattle.dispatcher.proofs.BusyLaws.{any_none, any_some}
use Rattle.dispatcher.proofs.with_if_any.Goals as goal

pub returns-then-word-eq0 : goal.returns-then-word-eq0
returns-then-word-eq0 c = let a = c.args in any_none a.set a.i a.word _ c.if-word-eq0.true c.without_member.ensures

pub returns-else-word-eq0 : goal.returns-else-word-eq0
returns-else-word-eq0 c = let a = c.args in any_some a.set a.i a.word _ c.if-word-eq0.false c.with_member.ensures
