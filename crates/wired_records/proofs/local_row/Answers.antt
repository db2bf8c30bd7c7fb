-- `wired_records::local_row` meets its contract.
use mathlib.Core.Path.{◌∙◌}
use Rattle.view.specs.View.{lent}
use Rattle.view.proofs.Standing.{standing}
use Rattle.wired_records.proofs.MulticastSets.{row_made}
use Rattle.wired_records.proofs.local_row.Goals as goal

pub returns : goal.returns
returns c =
    let a = c.args in
    let read = c.local_of.ensures in
    record {
      value = read;
      value_2 = λ P C M W T O passes on. let L = lent P a.stations.now C M W T O in read ∙ row_made L (standing L passes) a.to.0 on;
    }
