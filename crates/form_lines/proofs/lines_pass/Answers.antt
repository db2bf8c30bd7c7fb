-- `form_lines::lines_pass` meets its contract.
use mathlib.Core.Path.{refl}
use native.Mathlib.Omega.{arith}
use Rattle.stations.specs.View.{stations_in}
use Rattle.carts.specs.View.{carts_in}
use Rattle.messages.specs.View.{rooms_in}
use Rattle.view.specs.View.{lent}
use Rattle.form_lines.specs.Pass.{passes, lines_pass}
use Rattle.form_lines.proofs.PassLaws.{lent_passes}
use Rattle.form_lines.proofs.Chained.{passed}
use Rattle.form_lines.proofs.lines_pass.Goals as goal

pub station_count-requires : goal.station_count-requires
station_count-requires c = let p = c.requires in omega (arith, p.0)

pub cart_count-requires : goal.cart_count-requires
cart_count-requires c = let p = c.requires in omega (arith, p.0)

pub passes-requires : goal.passes-requires
passes-requires c =
    let p = c.requires in
    let n = c.station_count.ensures in
    let k = c.cart_count.ensures in
    (p.0, omega (arith, p.4, k), p.5, p.6, omega (arith, p.1, p.2, n), omega (arith, p.3, k), omega (arith, p.2, n))

pub returns : goal.returns
returns c =
    let a = c.args in
    let p = c.requires in
    let n = c.station_count in
    let k = c.cart_count in
    let S = stations_in a.stations.now in
    let C = carts_in a.carts.now in
    let R = rooms_in a.messages.now in
    λ P texts store. passed a.lines.now c.passes.result (passes n.result k.result S C R a.lines.now) (lines_pass (lent P a.stations.now a.carts.now a.messages.now a.lines.now texts store)) c.passes.ensures
    (lent_passes (lent P a.stations.now a.carts.now a.messages.now a.lines.now texts store) n.result n.ensures k.result k.ensures (passes n.result k.result S C R a.lines.now) (omega (arith, p.1, p.2, n.ensures)) (omega (arith, p.3, k.ensures)) refl)
