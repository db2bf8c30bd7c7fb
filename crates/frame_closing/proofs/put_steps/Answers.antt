-- `frame_closing::put_steps` meets its contract.
use Rattle.frame_closing.proofs.Lines.{steps_written}
use Rattle.frame_closing.proofs.put_steps.Goals as goal

pub returns : goal.returns
returns c = steps_written c.requires c.put_quiet-word.ensures c.args.steps c.args.held c.put_two_fields-fields.ensures

pub shape_of-line : goal.shape_of-line
shape_of-line c = (returns c).kept
