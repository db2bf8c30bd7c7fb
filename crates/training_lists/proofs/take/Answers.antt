-- `training_lists::take` meets its contract.
use Rattle.lists.specs.View.{lent_lists}
use Rattle.training_lists.proofs.LineLaws.{take_made}
use Rattle.training_lists.proofs.take.Goals as goal

pub returns : goal.returns
returns c =
    let a = c.args in
    let t = c.take-reply in
    take_made (lent_lists a.counts.now a.sends.now a.octets.now) _ a.station.0 a.cart.0 t.result a.index a.output.now _ a.at _ c.requires.lists_ready t.ensures.met c.put_reply.ensures
