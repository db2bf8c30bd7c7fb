-- `stations::put_copy` meets its contract.
use mathlib.Core.Path.{ap, ◌∙◌}
use Prim.Native.Nat.{ℕ}
use Rattle.stations.specs.View.{stations_in, with_room}
use Rattle.stations.proofs.TableLaws.{acks_stay}
use Rattle.stations.proofs.put_copy.Goals as goal

pub returns : goal.returns
returns c =
    let a = c.args in
    let S = stations_in a.stations.now in
    let t = a.station.0 in
    let m = a.m in
    let r = c.put_room.ensures in
    (r.0 ∙ ap (λ (x : ℕ). with_room S m t a.carts x) c.acks_of-acks.ensures ∙ acks_stay S m t a.carts, r.1)
