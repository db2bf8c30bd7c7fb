-- `tested_events::text_refusal` meets its contract.
use Rattle.std.proofs.lemmas.Result.{err_from_is_err_and}
use Rattle.view.specs.View.{lent}
use Rattle.reading.proofs.PartLaws.{read_number}
use Rattle.tested_events.proofs.text_refusal.Goals as goal

pub returns-in_err-read : goal.returns-in_err-read
returns-in_err-read c P e =
    let a = c.args in
    let p = err_from_is_err_and c.from_residual.result c.from_residual.ensures.1 in
    rw (p.1, p.2) (read_number (lent P a.stations.now a.carts.now a.messages.now a.lines.now a.texts.now a.store.now) a.initiator.0 a.number.0 _ (c.in_err-read.ensures P e))

pub returns : goal.returns
returns c P e =
    let a = c.args in
    read_number (lent P a.stations.now a.carts.now a.messages.now a.lines.now a.texts.now a.store.now) a.initiator.0 a.number.0 _ (c.in_ok-read.ensures P e)
