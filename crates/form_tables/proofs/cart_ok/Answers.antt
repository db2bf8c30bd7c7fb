-- `form_tables::cart_ok` meets its contract.
use mathlib.Core.Path.{sym, ap, ◌∙◌}
use mathlib.Core.List.{[]}
use native.Mathlib.Omega.{arith}
use borrow.Author.Tests.{not-true, not-false}
use Rattle.protocol.specs.Floor.{Place, limits, entered}
use Rattle.protocol.specs.Claims.{test}
use Rattle.protocol.specs.Form.{place_inside}
use Rattle.form_tables.proofs.Places.{cart_outside, cart_beyond, cart_lost, cart_inside}
use Rattle.protocol.proofs.Answers.{passed, refused}
use Rattle.form_tables.specs.Tables.{tables}
use mathlib.Core.Bool.{not}
use Rattle.form_tables.proofs.cart_ok.Goals as goal

pub returns-then-not-has_entered : goal.returns-then-not-has_entered
returns-then-not-has_entered c =
    let a = c.args in
    let place = c.place_of-place in
    let went = c.has_entered in
    cart_outside (tables a.stations.now a.carts.now []) a.number.0 c.row_ends.result
    (ap entered (sym place.ensures) ∙ sym went.ensures ∙ not-true _ (ap not c.if-not-has_entered.true)) c.row_ends.ensures

pub returns-then-cart_count-number : goal.returns-then-cart_count-number
returns-then-cart_count-number c =
    let a = c.args in
    let place = c.place_of-place in
    let went = c.has_entered in
    cart_beyond (tables a.stations.now a.carts.now []) a.number.0
    (ap entered (sym place.ensures) ∙ sym went.ensures ∙ not-false _ (ap not c.if-not-has_entered.false)) (omega arith)

pub returns-then-not-place_ok : goal.returns-then-not-place_ok
returns-then-not-place_ok c =
    let a = c.args in
    let F = tables a.stations.now a.carts.now [] in
    let place = c.place_of-place in
    let t = c.place_ok in
    cart_lost F a.number.0 (refused (place_inside limits F (F.place a.number.0)) t.result
    (t.ensures F (sym c.station_count.ensures) ∙ ap (λ (p : Place). test (place_inside limits F p)) place.ensures) (not-true _ (ap not c.if-not-place_ok.true)))

pub returns : goal.returns
returns c =
    let a = c.args in
    let F = tables a.stations.now a.carts.now [] in
    let place = c.place_of-place in
    let went = c.has_entered in
    let t = c.place_ok in
    cart_inside F a.number.0 c.row_sent.result
    (ap entered (sym place.ensures) ∙ sym went.ensures ∙ not-false _ (ap not c.if-not-has_entered.false)) (omega arith)
    (passed (place_inside limits F (F.place a.number.0)) t.result
    (t.ensures F (sym c.station_count.ensures) ∙ ap (λ (p : Place). test (place_inside limits F p)) place.ensures) (not-false _ (ap not c.if-not-place_ok.false)))
    c.row_sent.ensures
