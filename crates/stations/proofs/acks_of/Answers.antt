-- `stations::acks_of` meets its contract.
use mathlib.Core.Path.{ap}
use mathlib.Core.Bool.{not}
use native.Mathlib.Omega.{arith}
use Rattle.stations.specs.View.{acks_at, copies_at, stations_in, station_word}
use Rattle.stations.proofs.TableLaws.{is_counted, is_not_counted}
use Rattle.stations.proofs.acks_of.Goals as goal

pub returns-then-has : goal.returns-then-has
unfolding stations_in
returns-then-has c =
    let a = c.args in
    let w = c.word_of-word in
    let e = c.word_of in
    let h = c.has in
    is_counted acks_at copies_at (station_word a.stations.now) a.station.0 a.m a.m e.result h.result w.result
    (omega arith) e.ensures h.ensures (ap not c.if-has.true) w.ensures

pub returns-else-has : goal.returns-else-has
unfolding stations_in
returns-else-has c =
    let a = c.args in
    let e = c.word_of in
    let h = c.has in
    is_not_counted acks_at copies_at (station_word a.stations.now) a.station.0 a.m a.m e.result h.result
    e.ensures h.ensures (ap not c.if-has.false)
