use mathlib.Core.Path.{refl, ◌∙◌}
use native.Mathlib.Omega.{arith}
use Rattle.stations.specs.View.{head_in}
use Rattle.stations.proofs.GroupLaws.{left_none, left_one, left_all}
use Rattle.stations.proofs.leave_groups.Goals as goal

pub loop-group-init : goal.loop-group-init
loop-group-init c =
    let a = c.args in
    (omega arith, refl, left_none (head_in a.stations.now) a.cart.0, refl)

pub loop-group-preserved : goal.loop-group-preserved
loop-group-preserved c =
    let a = c.args in
    let l = c.loop-group in
    let g = c.group_of in
    let w = c.without_member-members in
    let p = c.put_group in (
      omega arith,
      p.ensures.stations_len_unchanged ∙ l.invariant.1,
      left_one (head_in a.stations.now) a.cart.0 l.group g.result w.result l.invariant.2 g.ensures w.ensures p.ensures.stations_after,
      p.ensures.stations_unchanged ∙ l.invariant.3,
    )

pub returns : goal.returns
returns c =
    let a = c.args in
    let l = c.loop-group in
    record {
      stations_after = l.invariant.2 ∙ left_all a.stations.now a.cart.0 l.group (omega arith);
      stations_unchanged = l.invariant.3;
      stations_len_unchanged = l.invariant.1;
    }
