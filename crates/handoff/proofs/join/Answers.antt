-- `handoff::join` meets its contract.
use mathlib.Core.Path.{◌∙◌}
use Rattle.stations.specs.View.{stations_in}
use Rattle.handoff.proofs.RiseLaws.{joins}
use Rattle.handoff.proofs.join.Goals as goal

pub returns : goal.returns
returns c =
    let a = c.args in
    let q = c.enqueue_all-place.ensures in
    let s = c.settle.ensures in
    record {
      leaves = (joins (stations_in a.stations.now) a.station.0 a.cart.0 a.nearest q.leaves.0 s.0, (s.1.0 ∙ q.leaves.1.0, s.1.1 ∙ q.leaves.1.1));
      value = q.value;
    }
