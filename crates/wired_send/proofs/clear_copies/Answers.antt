use mathlib.Core.Path.{refl, ap, ◌∙◌}
use native.Mathlib.Omega.{arith}
use Rattle.stations.specs.View.{Stations, stations_in}
use Rattle.wired_send.specs.Copies.{without_copy}
use Rattle.wired_send.proofs.CopyLaws.{cleared_none, cleared_more, cleared_all}
use Rattle.wired_send.proofs.clear_copies.Goals as goal

pub loop-t-init : goal.loop-t-init
loop-t-init c = (omega arith, cleared_none (stations_in c.args.stations.now) c.args.m, refl, refl)

pub loop-t-preserved : goal.loop-t-preserved
loop-t-preserved c =
    let a = c.args in
    let l = c.loop-t in
    let p = c.clear_copy.ensures in (
      omega arith,
      p.0 ∙ ap (λ (S : Stations). without_copy S a.m l.t) l.invariant.1 ∙ cleared_more (stations_in a.stations.now) a.m l.t,
      p.1.0 ∙ l.invariant.2,
      p.1.1 ∙ l.invariant.3,
    )

pub returns : goal.returns
returns c =
    let a = c.args in
    let l = c.loop-t in (
      l.invariant.1 ∙ cleared_all a.stations.now a.m l.t (omega arith),
      (l.invariant.2, l.invariant.3),
    )
