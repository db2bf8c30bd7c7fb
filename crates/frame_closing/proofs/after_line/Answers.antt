-- `frame_closing::after_line` meets its contract.
use Rattle.frame_closing.proofs.Lines.{line_accepted, line_failed}
use Rattle.frame_closing.proofs.after_line.Goals as goal

pub returns-then-handed : goal.returns-then-handed
returns-then-handed c = line_accepted c.args.run c.args.handed c.if-handed.true

pub returns : goal.returns
returns c = line_failed c.args.run c.args.handed c.if-handed.false
