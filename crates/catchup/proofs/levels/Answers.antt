use mathlib.Core.Path.{ap, ◌∙◌}
use Prim.Native.Nat.{ℕ, max}
use native.Mathlib.Omega.{arith}
use lib.ListN.{length-set, get_or}
use borrow.Author.Rules.{rules}
use Rattle.stations.specs.View.{stations_in}
use Rattle.catchup.specs.Arrival.{level_in}
use Rattle.catchup.proofs.RowLaws.{write_one, write_all, max_is}
use Rattle.catchup.proofs.levels.Goals as goal

pub loop-s-init : goal.loop-s-init
loop-s-init c = (omega arith, search rules, λ k l. absurd (omega arith))

pub loop-s-preserved : goal.loop-s-preserved
loop-s-preserved c =
    let a = c.args in
    let l = c.loop-s in
    let y = c.max.ensures ∙ ap (λ (e : ℕ). max (get_or a.row l.s 0) e) c.expected_of.ensures ∙ max_is (get_or a.row l.s 0) _ in
    (omega arith, simp length-set (omega arith), write_one (level_in (stations_in a.stations.now) a.station.0 a.row) l.upto l.s c.max.result (omega arith) y l.invariant.2)

pub returns : goal.returns
returns c =
    let a = c.args in
    let l = c.loop-s in
    write_all (level_in (stations_in a.stations.now) a.station.0 a.row) l.upto l.s l.invariant.1 (omega arith) l.invariant.2
