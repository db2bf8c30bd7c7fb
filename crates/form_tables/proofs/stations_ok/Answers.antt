use mathlib.Core.List.{[]}
use native.Mathlib.Omega.{arith}
use borrow.Author.Tests.{not-true, not-false}
use Rattle.protocol.specs.Form.{station_rule}
use Rattle.protocol.proofs.Answers.{passed, refused, one_more, all_yes, all_no}
use Rattle.form_tables.specs.Tables.{tables}
use mathlib.Core.Bool.{not}
use mathlib.Core.Path.{ap}
use Rattle.form_tables.proofs.stations_ok.Goals as goal

pub returns-then-not-station_ok : goal.returns-then-not-station_ok
returns-then-not-station_ok c =
    λ M e. let f = station_rule M (tables c.args.stations.now [] []) in
    let a = c.loop-s in
    let t = c.station_ok in
    all_no c.args.n f a.s (omega arith) (refused (f a.s) t.result (t.ensures M e) (not-true _ (ap not c.if-not-station_ok.true)))

pub loop-s-preserved : goal.loop-s-preserved
loop-s-preserved c =
    let a = c.loop-s in
    let t = c.station_ok in (
      omega arith,
      λ M e. let f = station_rule M (tables c.args.stations.now [] []) in
          one_more f a.s (a.invariant.1 M e) (passed (f a.s) t.result (t.ensures M e) (not-false _ (ap not c.if-not-station_ok.false))),
    )

pub returns : goal.returns
returns c =
    let a = c.loop-s in
    λ M e. all_yes c.args.n (station_rule M (tables c.args.stations.now [] [])) a.s (omega arith) (a.invariant.1 M e)
