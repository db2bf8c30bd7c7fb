-- `wired_send::clear_copy` meets its contract.
use mathlib.Core.Path.{ap, ◌∙◌}
use Rattle.stations.specs.View.{Stations, with_queue}
use Rattle.wired_send.proofs.clear_copy.Goals as goal

pub returns : goal.returns
returns c =
    let m = c.args.m in
    let t = c.args.station.0 in
    let x = c.put_room.ensures in
    let z = c.put_queue.ensures in
    (z.0 ∙ ap (λ (S : Stations). with_queue S m t 0) x.0, (z.1.0 ∙ x.1.0, z.1.1 ∙ x.1.1))
