-- `event_send::check_text` meets its contract.
use Rattle.event_send.proofs.SendChecks.{text_none, text_some}
use Rattle.event_send.proofs.check_text.Goals as goal

pub returns-then-text-eq0 : goal.returns-then-text-eq0
returns-then-text-eq0 c = text_none c.args.text.now c.if-text-eq0.true

pub returns : goal.returns
returns c = text_some c.args.text.now c.if-text-eq0.false
