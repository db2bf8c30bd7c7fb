-- `frame_lines::spell` meets its contract.
use Rattle.frame_lines.proofs.Numbers.{spelled}
use Rattle.frame_lines.proofs.spell.Goals as goal

pub returns : goal.returns
returns c =
    let w = c.word_of in
    spelled c.args.n w.result c.put_small-count.result _ c.requires c.put_small-count.ensures w.ensures.0 w.ensures.1
