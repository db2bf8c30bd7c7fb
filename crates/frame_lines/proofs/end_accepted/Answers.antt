-- `frame_lines::end_accepted` meets its contract.
use native.Mathlib.Omega.{arith}
use lib.ListN.{take}
use Rattle.reports.specs.Effects.{report_in}
use Rattle.frame_lines.proofs.Fields.{accepted_ended}
use Rattle.frame_lines.proofs.end_accepted.Goals as goal

pub returns : goal.returns
returns c = accepted_ended (report_in c.args.r (take c.args.size c.args.room.now)) (omega arith) c.put_fields-fields.ensures

pub shape_of-out : goal.shape_of-out
shape_of-out c = (returns c).kept
