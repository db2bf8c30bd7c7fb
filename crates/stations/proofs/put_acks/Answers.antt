-- `stations::put_acks` meets its contract.
use mathlib.Core.Path.{ap, ◌∙◌}
use Prim.Native.Nat.{ℕ}
use Rattle.stations.specs.View.{stations_in, with_room}
use Rattle.stations.proofs.TableLaws.{copy_stays}
use Rattle.stations.proofs.put_acks.Goals as goal

pub returns : goal.returns
returns c =
    let a = c.args in
    let S = stations_in a.stations.now in
    let t = a.station.0 in
    let m = a.m in
    let r = c.put_room.ensures in
    (r.0 ∙ ap (λ (x : ℕ). with_room S m t x a.carts) c.copy_of-copy.ensures ∙ copy_stays S m t a.carts, r.1)
