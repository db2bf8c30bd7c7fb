-- `stations::copy_of` meets its contract.
use native.Mathlib.Omega.{arith}
use Rattle.stations.specs.View.{copy_at, copies_at, stations_in, station_word}
use Rattle.stations.proofs.TableLaws.{is_counted, is_not_counted}
use mathlib.Core.Bool.{not}
use mathlib.Core.Path.{ap}
use Rattle.stations.proofs.copy_of.Goals as goal

pub returns-then-not-has : goal.returns-then-not-has
unfolding stations_in
returns-then-not-has c =
    let a = c.args in
    is_not_counted copy_at copies_at (station_word a.stations.now) a.station.0 a.m a.m c.word_of.result c.has.result
    c.word_of.ensures c.has.ensures (ap not c.if-not-has.true)

pub returns : goal.returns
unfolding stations_in
returns c =
    let a = c.args in
    is_counted copy_at copies_at (station_word a.stations.now) a.station.0 a.m a.m c.word_of.result c.has.result c.word_of-2.result
    (omega arith) c.word_of.ensures c.has.ensures (ap not c.if-not-has.false) c.word_of-2.ensures
