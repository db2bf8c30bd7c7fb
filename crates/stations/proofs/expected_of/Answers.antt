-- `stations::expected_of` meets its contract.
use mathlib.Core.Path.{◌∙◌}
use native.Mathlib.Omega.{arith}
use Rattle.rows.proofs.ColumnLaws.{column_read}
use Rattle.stations.specs.View.{initiators, expected_at, stations_in, station_word}
use Rattle.stations.proofs.expected_of.Goals as goal

pub returns : goal.returns
unfolding stations_in
returns c =
    let a = c.args in
    c.word_of.ensures ∙ column_read initiators expected_at (station_word a.stations.now) a.station.0 a.initiator.0 (omega arith)
