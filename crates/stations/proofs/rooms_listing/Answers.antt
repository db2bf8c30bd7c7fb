-- `stations::rooms_listing` meets its contract.
use mathlib.Core.Path.{ap, ◌∙◌}
use Prim.Native.Nat.{ℕ}
use Rattle.stations.specs.View.{rooms_meeting, stations_in}
use Rattle.stations.proofs.NamingLaws.{listing_is}
use Rattle.stations.proofs.rooms_listing.Goals as goal

pub returns : goal.returns
unfolding stations_in
returns c =
    let a = c.args in
    c.rooms_with.ensures ∙ ap (λ (s : ℕ). rooms_meeting a.stations.now a.station.0 19 s) c.all_below.ensures ∙ listing_is a.stations.now a.station.0 (λ i. (c.type_inv.stations i).fits)
