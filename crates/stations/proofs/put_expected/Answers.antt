-- `stations::put_expected` meets its contract.
use mathlib.Core.Path.{ap, ◌∙◌}
use native.Mathlib.Omega.{arith}
use Rattle.stations.specs.View.{stations_of, stations_in, station_word}
use Rattle.stations.proofs.TableLaws.{expected_put}
use Rattle.stations.proofs.put_expected.Goals as goal

pub returns : goal.returns
unfolding stations_in
returns c =
    let a = c.args in
    let p = c.put_word.ensures in
    (ap stations_of p.stations_after ∙ expected_put (station_word a.stations.now) a.station.0 a.expected a.initiator.0 (omega arith), (p.stations_unchanged, p.stations_len_unchanged))
