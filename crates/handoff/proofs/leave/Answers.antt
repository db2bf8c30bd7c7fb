-- `handoff::leave` meets its contract.
use mathlib.Core.Path.{◌∙◌}
use Rattle.stations.specs.View.{stations_in}
use Rattle.handoff.proofs.LeaveLaws.{leaves}
use Rattle.handoff.proofs.leave.Goals as goal

pub returns : goal.returns
returns c =
    let a = c.args in
    let q = c.unqueue in
    let l = c.local_of in
    let k = c.without_member-local in
    let p = c.put_local in (
      leaves (stations_in a.stations.now) a.station.0 a.number.0 l.result k.result q.ensures.0 l.ensures k.ensures p.ensures.0,
      (p.ensures.1.0 ∙ q.ensures.1.0, p.ensures.1.1 ∙ q.ensures.1.1),
    )
