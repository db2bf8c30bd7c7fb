-- `frame_lines::put_word` meets its contract.
use mathlib.Core.Path.{◌∙◌}
use native.Mathlib.Omega.{arith}
use Rattle.frame_lines.proofs.Octets.{part_written}
use Rattle.frame_lines.proofs.Numbers.{octets_of, octets_long}
use Rattle.frame_lines.proofs.put_word.Goals as goal

pub returns : goal.returns
returns c =
    let a = c.args in
    part_written a.out.now _ _ a.at _ (c.copy_from_slice.ensures.after ∙ c.to_le_bytes.ensures ∙ octets_of a.word c.requires.1) (omega (arith, octets_long a.word))
