-- `frame_lines::end_refused` meets its contract.
use Rattle.frame_lines.proofs.Fields.{refused_ended}
use Rattle.frame_lines.proofs.end_refused.Goals as goal

pub returns : goal.returns
returns c = refused_ended c.args.number c.requires c.put_no-word.ensures c.put_field-refusal.ensures

pub shape_of-out : goal.shape_of-out
shape_of-out c = (returns c).kept
