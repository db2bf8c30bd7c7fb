-- `form_lines::passes` meets its contract.
use mathlib.Core.Path.{refl, sym, ◌∙◌}
use native.Mathlib.Omega.{arith}
use lib.ListN.{replicate}
use borrow.Author.Tests.{not-false}
use Rattle.carts.specs.View.{carts_in}
use Rattle.messages.specs.View.{rooms_in}
use Rattle.stations.specs.View.{stations_in}
use Rattle.lines.proofs.Test.{none_seen}
use Rattle.form_lines.specs.Pass.{passes}
use Rattle.form_lines.proofs.PassLaws.{passing}
use Rattle.form_lines.proofs.Chained.{whole_none, formed}
use mathlib.Core.Bool.{not}
use mathlib.Core.Path.{ap}
use Rattle.form_lines.proofs.passes.Goals as goal

pub begin-ok-requires : goal.begin-ok-requires
begin-ok-requires c = (refl, omega (arith, c.requires.0, c.requires.6), c.requires.2, c.requires.4)

pub from_each-requires : goal.from_each-requires
from_each-requires c =
    let b = c.begin-ok in
    (b.auto.masks, refl, c.requires.0, c.requires.2, c.requires.1, c.requires.3, c.requires.5, whole_none c.args.lines.now (replicate 49 0) (λ x. none_seen 49 x))

pub returns : goal.returns
returns c =
    let f = c.from_each in
    let r = c.rest_ok in
    let b = c.begin-ok in
    let e = c.all_ended-ends in
    let m = c.movers-set in
    let w = c.in-Some in
    formed c.args.lines.now _ (passes c.args.size.stations c.args.size.carts (stations_in c.args.stations.now) (carts_in c.args.carts.now) (rooms_in c.args.messages.now) c.args.lines.now) (sym r.ensures ∙ not-false _ (ap not c.if-not-rest_ok.false))
    (passing c.args.size.stations c.args.size.carts (carts_in c.args.carts.now) (rooms_in c.args.messages.now) (stations_in c.args.stations.now) c.args.lines.now b.result e.result _ _ m.result w.met b.new.masks f.new.masks b.ensures.value b.ensures.masks_after w.ensures.checked.1 e.ensures m.ensures refl refl)
