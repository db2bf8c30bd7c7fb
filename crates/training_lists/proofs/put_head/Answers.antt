use native.Mathlib.Omega.{arith}
-- `training_lists::put_head` meets its contract.
use lib.ListN.{length-set}
use Rattle.training_lists.proofs.LineLaws.{head_written}
use Rattle.training_lists.proofs.put_head.Goals as goal

pub shape_of-output : goal.shape_of-output
shape_of-output c = simp length-set (omega (arith, c.put_two_fields-end.ensures.kept, c.put_index-fields.ensures.kept))

pub returns : goal.returns
returns c =
    let a = c.args in
    head_written a.index a.station.0 a.number.0 c.requires.0 c.put_index-fields.ensures c.put_two_fields-end.ensures
