-- `stations::put_local` meets its contract.
use mathlib.Core.Path.{ap, ◌∙◌}
use Rattle.stations.specs.View.{stations_of, stations_in, station_word}
use Rattle.stations.proofs.TableLaws.{local_put}
use Rattle.stations.proofs.put_local.Goals as goal

pub returns : goal.returns
unfolding stations_in
returns c =
    let a = c.args in
    let p = c.put_word.ensures in
    (ap stations_of p.stations_after ∙ local_put (station_word a.stations.now) a.station.0 a.carts, (p.stations_unchanged, p.stations_len_unchanged))
