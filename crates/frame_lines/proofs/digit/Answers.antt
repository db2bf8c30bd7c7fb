-- `frame_lines::digit` meets its contract.
use Rattle.frame_lines.proofs.Numbers.{digit_sum}
use Rattle.frame_lines.proofs.digit.Goals as goal

pub returns : goal.returns
returns c = digit_sum c.args.d c.letter.result c.letter.ensures.0
