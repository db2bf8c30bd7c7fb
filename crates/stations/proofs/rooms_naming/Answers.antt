-- `stations::rooms_naming` meets its contract.
use mathlib.Core.Path.{ap, ◌∙◌}
use Prim.Native.Nat.{ℕ}
use Rattle.stations.specs.View.{rooms_meeting, stations_in}
use Rattle.stations.proofs.NamingLaws.{naming_is}
use Rattle.stations.proofs.rooms_naming.Goals as goal

pub returns : goal.returns
unfolding stations_in
returns c =
    let a = c.args in
    c.rooms_with.ensures ∙ ap (λ (s : ℕ). rooms_meeting a.stations.now a.station.0 18 s) c.with_member.ensures ∙ naming_is a.stations.now a.station.0 a.cart.0 c.requires.1
