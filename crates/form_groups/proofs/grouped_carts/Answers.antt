use native.Mathlib.Omega.{arith}
use Rattle.stations.specs.View.{head_in}
use Rattle.form_tables.proofs.Sets.{collect_none, collect_more}
use Rattle.form_groups.proofs.grouped_carts.Goals as goal

pub loop-group-init : goal.loop-group-init
loop-group-init c = (omega arith, collect_none (head_in c.args.stations.now).groups)

pub loop-group-preserved : goal.loop-group-preserved
loop-group-preserved c =
    let a = c.args in
    let l = c.loop-group in
    let members = c.group_of in (
      omega (arith, c.loop-group-test.true),
      collect_more (head_in a.stations.now).groups l.group l.grouped members.result c.union-grouped.result l.invariant.1 members.ensures c.union-grouped.ensures,
    )
